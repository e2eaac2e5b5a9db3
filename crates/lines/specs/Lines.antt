-- The lines of document 01's trace.
use Rattle.std.specs.Prelude.{ℕ, ◌+◌, cond, Option, None, Some, List, [], ◌∷◌, ◌++◌, eqb, ltb, length}
use Rattle.unit.specs.Answered.{Answered, refused, accepted}
use Rattle.table6.specs.declared.State.{State}
use Rattle.table6.specs.RefusalCodes.{REFUSED-FRAME}
use Rattle.link.specs.declared.Link.{Link}
use Rattle.octet.specs.Octets.{at}
use Rattle.record.specs.LinkRecord.{slot_of}
use Rattle.event.specs.Frame.{head_octets, link_at, code_at, param_at, length_at, message_of}
use Rattle.lines.specs.Text.{ascii, decimal, hexadecimal, line}

-- "Per event it prints E, ordinal, link, event code, refusal, signals"; "a refusal 2 prints link and code as 0".
abbrev pub shown : ℕ → ℕ → ℕ
shown refusal n = cond (eqb refusal REFUSED-FRAME) 0 n

abbrev pub event_line : ℕ → List ℕ → ℕ → ℕ → List ℕ
event_line ordinal e refusal signals =
    line (ascii ("E" ∷ []))
    (decimal ordinal ∷ decimal (shown refusal (link_at e)) ∷ decimal (shown refusal (code_at e)) ∷ decimal refusal ∷ decimal signals ∷ [])

-- Of signals one behind the other, the length of the first, if there is one.
abbrev pub first_record : List ℕ → Option ℕ
first_record o = cond (ltb (length o) head_octets) None (cond (ltb (length o) (head_octets + length_at o)) None (Some (head_octets + length_at o)))

-- "Per signal S, code, parameter, number as three decimals, message in hex or '-'".
abbrev pub dotted : ℕ → ℕ → ℕ → List ℕ
dotted a b c = decimal a ++ ascii ("." ∷ []) ++ decimal b ++ ascii ("." ∷ []) ++ decimal c

abbrev pub message_text : List ℕ → List ℕ
message_text [] = ascii ("-" ∷ [])
message_text (x ∷ others) = hexadecimal (x ∷ others)

abbrev pub signal_line : List ℕ → List ℕ
signal_line r =
    line (ascii ("S" ∷ []))
    (decimal (code_at r) ∷ decimal (param_at r) ∷ dotted (at r 6) (at r 7) (at r 8) ∷ message_text (message_of r) ∷ [])

-- "Per link L, link, state, C1 ('? 0' for an ill-formed record)".
abbrev pub state_name : State → List ℕ
state_name State.S111 = ascii ("1" ∷ "/" ∷ "1" ∷ "/" ∷ "1" ∷ [])
state_name State.S141 = ascii ("1" ∷ "/" ∷ "4" ∷ "/" ∷ "1" ∷ [])
state_name State.S212 = ascii ("2" ∷ "/" ∷ "1" ∷ "/" ∷ "2" ∷ [])
state_name State.S222 = ascii ("2" ∷ "/" ∷ "2" ∷ "/" ∷ "2" ∷ [])
state_name State.S242 = ascii ("2" ∷ "/" ∷ "4" ∷ "/" ∷ "2" ∷ [])
state_name State.S2103 = ascii ("2" ∷ "/" ∷ "1" ∷ "0" ∷ "/" ∷ "3" ∷ [])
state_name State.S2104 = ascii ("2" ∷ "/" ∷ "1" ∷ "0" ∷ "/" ∷ "4" ∷ [])
state_name State.S3105 = ascii ("3" ∷ "/" ∷ "1" ∷ "0" ∷ "/" ∷ "5" ∷ [])

-- the state and C1, to the end of the line
abbrev pub slot_text : Answered Link → List ℕ
slot_text (refused n) = line (ascii ("?" ∷ [])) (ascii ("0" ∷ []) ∷ [])
slot_text (accepted l) = line (state_name l.state) (decimal l.c1 ∷ [])

abbrev pub link_line : ℕ → List ℕ → List ℕ
link_line k r = ascii ("L" ∷ " " ∷ []) ++ decimal k ++ ascii (" " ∷ []) ++ slot_text (slot_of r)
