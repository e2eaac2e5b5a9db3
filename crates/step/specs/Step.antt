-- The step, from table, event and output to answer, table and output, on all octets: the checks in their order, and else Table 6 with 2026-07's rule.
use Rattle.std.specs.Prelude.{ℕ, ◌+◌, ◌*◌, ◌/◌, ◌%◌, Bool, true, false, not, ◌&&◌, ◌||◌, List, [], ◌∷◌, ◌++◌, map, eqb, leb, ltb, length, take, drop}
use Rattle.unit.specs.Checks.{Check, ◌if◌, by, Verdict, passed, refused, first}
use Rattle.table6.specs.EventCodes.{T1-expired, T2-expired, T3-expired}
use Rattle.link.specs.declared.Link.{Link}
use Rattle.link.specs.Step as machine
use Rattle.octet.specs.Octets.{over, put_at}
use Rattle.record.specs.LinkRecord.{record_octets, well_formed, link_of, octets_of}
use Rattle.event.specs.Frame.{head_octets, message_octets, link_at, code_at, message_of}
use Rattle.event.specs.Fields.{field_checks}
use Rattle.event.specs.EventRecord.{framed, coded_in, unknown, event_of, fields_in}
use Rattle.signal.specs.SignalRecord.{joined}
use Rattle.step.specs.declared.Answer.{Answer}
use Rattle.step.specs.declared.Refusal.{Refusal}
use Rattle.step.specs.Checks.{number, place}

-- THE TABLE

-- at most
abbrev pub table_octets : ℕ
table_octets = 5120

-- "Table empty, not a multiple of 16, or over 4,096 octets": by 2026-07, of 20 and 5,120.
abbrev pub bad_table : List ℕ → Bool
bad_table t = eqb (length t) 0 || not (eqb (length t % record_octets) 0) || ltb table_octets (length t)

abbrev pub records : List ℕ → ℕ
records t = length t / record_octets

-- the record of link k
abbrev pub record_at : List ℕ → ℕ → List ℕ
record_at t k = take record_octets (drop (record_octets * k) t)

-- THE EVENT

-- "Expiry of a timer not marked running."
abbrev pub idle : Link → ℕ → Bool
idle l code = (eqb code T1-expired && not l.t1) || (eqb code T2-expired && not l.t2) || (eqb code T3-expired && not l.t3)

-- THE CHECKS, in document 01's order, with 10 to 12 in the place of 4

abbrev pub is_illegal : machine.Outcome → Bool
is_illegal machine.Illegal = true
is_illegal (machine.Legal next signals) = false

-- the named link, before the event
abbrev pub link_for : List ℕ → List ℕ → Link
link_for t e = link_of (record_at t (link_at e))

-- the least of an output: twelve heads and the longest message
abbrev pub output_octets : ℕ
output_octets = 12 * head_octets + message_octets

abbrev pub checks : List ℕ → List ℕ → ℕ → List (Check Refusal)
checks t e room =
    (Refusal.Table if bad_table t)
    ∷ (Refusal.Frame if not (framed e))
    ∷ (Refusal.Code if unknown (coded_in e))
    ∷ map (by Refusal.Field) (field_checks (code_at e) (fields_in e))
    ++ (Refusal.Link if leb (records t) (link_at e))
    ∷ (Refusal.Record if not (well_formed (record_at t (link_at e))))
    ∷ (Refusal.Timer if idle (link_for t e) (code_at e))
    ∷ (Refusal.Cell if is_illegal (machine.step_of (link_for t e) (event_of e)))
    ∷ (Refusal.Room if ltb room output_octets)
    ∷ []

-- THE CALL

pub record Outcome : Type 0 where
  pub answer : Answer
  pub table : List ℕ
  pub output : List ℕ

abbrev pub answering : Answer → List ℕ → List ℕ → Outcome
answering a t o = record { answer = a; table = t; output = o }

abbrev pub answered : (refusal octets signals place : ℕ) → Answer
answered refusal octets signals place = record { refusal = refusal; octets = octets; signals = signals; place = place }

-- A refusal changes nothing.
abbrev pub refused_by : Refusal → List ℕ → List ℕ → Outcome
refused_by r t o = answering (answered (number r) 0 0 (place r)) t o

-- What Table 6 gives, for link k and an event with the message m: its record is written into the table, its signals over the front of the output.
abbrev pub performed : machine.Outcome → List ℕ → ℕ → List ℕ → List ℕ → Outcome
performed machine.Illegal t k m o = refused_by Refusal.Cell t o
performed (machine.Legal next signals) t k m o =
    answering (answered 0 (length (joined k m signals)) (length signals) 0) (put_at t (record_octets * k) (octets_of next)) (over (joined k m signals) o)

abbrev pub outcome : Verdict Refusal → List ℕ → List ℕ → List ℕ → Outcome
outcome (refused r) t e o = refused_by r t o
outcome passed t e o = performed (machine.step_of (link_for t e) (event_of e)) t (link_at e) (message_of e) o

unfoldable pub step_call : List ℕ → List ℕ → List ℕ → Outcome
step_call t e o = outcome (first (checks t e (length o))) t e o
