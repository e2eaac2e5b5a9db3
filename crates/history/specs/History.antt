-- The history of one link, and a definition for each phrase of demand 3. All is told from what the host saw: no record of a link is read.
use Rattle.std.specs.Prelude.{ℕ, zero, suc, ◌≡◌, Bool, true, false, cond, not, ◌&&◌, ◌||◌, List, [], ◌∷◌, ◌++◌, eqb}
use Rattle.unit.specs.declared.Arrived.{Arrived}
use Rattle.unit.specs.declared.Mps.{Mps}
use Rattle.unit.specs.declared.Ups.{Ups}
use Rattle.unit.specs.Unit.{arrived}
use Rattle.unit.specs.Proving.{asked, table7}
use Rattle.table6.specs.EventCodes.{EMERGENCY, EMERGENCY-CEASES, STOP, ESTABLISH-confirm, RELEASE-indication, DATA-indication, FORCE-PROVING, FORCE-EMERGENCY, CLEAR-FORCE-MODES}
use Rattle.table6.specs.SignalCodes.{IN-SERVICE, OUT-OF-SERVICE, ESTABLISH-response, RELEASE-request, DATA-request}
use Rattle.link.specs.declared.Num.{Num}
use Rattle.event.specs.Frame.{link_at, code_at, param_at, number_at, message_of}
use Rattle.history.specs.Calls.{Seen, World}

-- An event that was accepted or a signal that was emitted, as its octets say: code and parameter, an event's number, and what its message is by clause 10.
pub data Mark : Type 0 where
  accepted : (code param : ℕ) → Num → Arrived → Mark
  emitted : (code param : ℕ) → Arrived → Mark

abbrev pub event_mark : List ℕ → Mark
event_mark e = accepted (code_at e) (param_at e) (number_at e) (arrived (message_of e))

abbrev pub signal_mark : List ℕ → Mark
signal_mark r = emitted (code_at r) (param_at r) (arrived (message_of r))

-- A history begins with its latest mark. Signals are added in the order in which they came out.
abbrev pub with_signals : List (List ℕ) → List Mark → List Mark
with_signals [] h = h
with_signals (r ∷ others) h = with_signals others (signal_mark r ∷ h)

-- The history of a link: of each accepted step that named it, the event and then the signals.
unfoldable pub marks : List Seen → ℕ → List Mark
marks [] link = []
marks (s ∷ earlier) link = cond (eqb (link_at s.event) link) (with_signals s.signals (event_mark s.event ∷ marks earlier link)) (marks earlier link)

abbrev pub history : World → ℕ → List Mark
history w link = marks w.seen link

-- MARKS, by document 01's codes

abbrev pub event : ℕ → Mark → Bool
event c (accepted code param n holds) = eqb code c
event c (emitted code param holds) = false

abbrev pub signal : ℕ → Mark → Bool
signal c (accepted code param n holds) = false
signal c (emitted code param holds) = eqb code c

abbrev pub is_nm : Arrived → Bool
is_nm Arrived.NM = true
is_nm Arrived.INS = false
is_nm (Arrived.Other status) = false
is_nm Arrived.Short = false
is_nm Arrived.Long = false

abbrev pub is_ins : Arrived → Bool
is_ins Arrived.NM = false
is_ins Arrived.INS = true
is_ins (Arrived.Other status) = false
is_ins Arrived.Short = false
is_ins Arrived.Long = false

abbrev pub holding : (Arrived → Bool) → Mark → Bool
holding p (accepted code param n holds) = p holds
holding p (emitted code param holds) = p holds

-- "Came up": ESTABLISH-confirm is accepted or ESTABLISH-response is sent.
abbrev pub comes_up : Mark → Bool
comes_up m = event ESTABLISH-confirm m || signal ESTABLISH-response m

-- "Released by either end or by SSCOP": RELEASE-request is sent, this end's, or RELEASE-indication is accepted, the far user's or SSCOP's.
abbrev pub released : Mark → Bool
released m = signal RELEASE-request m || event RELEASE-indication m

-- Where what is seen on one connection begins or ends.
abbrev pub edge : Mark → Bool
edge m = comes_up m || released m

-- A proving unit is sent, "its INS unit was sent", "the peer's INS unit was received": data with a unit of four octets.
abbrev pub proving_sent : Mark → Bool
proving_sent m = signal DATA-request m && holding is_nm m

abbrev pub ins_sent : Mark → Bool
ins_sent m = signal DATA-request m && holding is_ins m

abbrev pub ins_received : Mark → Bool
ins_received m = event DATA-indication m && holding is_ins m

-- "The in-service indication to the user, the out-of-service indication to the user and the user's accepted stop."
abbrev pub in_service : Mark → Bool
in_service m = signal IN-SERVICE m

abbrev pub turn : Mark → Bool
turn m = in_service m || signal OUT-OF-SERVICE m || event STOP m

-- HISTORIES

-- Somewhere in a history stands a mark that passes a test.
pub record Somewhere (p : Mark → Bool) (h : List Mark) : Type 0 where
  pub later : List Mark
  pub mark : Mark
  pub earlier : List Mark
  pub whole : h ≡ later ++ mark ∷ earlier
  pub passes : p mark ≡ true

abbrev pub none : (Mark → Bool) → List Mark → Bool
none p [] = true
none p (m ∷ h) = not (p m) && none p h

abbrev pub count : (Mark → Bool) → List Mark → ℕ
count p [] = zero
count p (m ∷ h) = cond (p m) (suc (count p h)) (count p h)

-- "Standing in service means that, of [the three], there was one and the in-service indication was the latest."
pub record Stands (h : List Mark) : Type 0 where
  pub indication : Somewhere in_service h
  pub latest : none turn indication.later ≡ true

-- "Its present connection came up and has not been released": nor has another come up since.
pub record Connection (h : List Mark) : Type 0 where
  pub up : Somewhere comes_up h
  pub present : none edge up.later ≡ true

-- What was seen on the connection, and all that was seen when it came up.
abbrev pub since : {h : List Mark} → Connection h → List Mark
since c = c.up.later

abbrev pub begun : {h : List Mark} → Connection h → List Mark
begun c = c.up.mark ∷ c.up.earlier

-- MPS, what management forces: by FORCE_PROVING, by FORCE_EMERGENCY, nothing after CLEAR_FORCE_MODES.
abbrev pub mps : List Mark → Mps
mps [] = Mps.Neutral
mps (m ∷ h) = cond (event FORCE-PROVING m) Mps.Normal (cond (event FORCE-EMERGENCY m) Mps.Emergency (cond (event CLEAR-FORCE-MODES m) Mps.Neutral (mps h)))

-- UPS, what the user wishes: by EMERGENCY, and no more after EMERGENCY_CEASES, the user's STOP or the out-of-service indication.
abbrev pub ups : List Mark → Ups
ups [] = Ups.Normal
ups (m ∷ h) = cond (event EMERGENCY m) Ups.Emergency (cond (event EMERGENCY-CEASES m || event STOP m || signal OUT-OF-SERVICE m) Ups.Normal (ups h))

-- The peer's field: the parameter of the latest event.
abbrev pub field : List Mark → ℕ
field [] = 0
field (accepted code param n holds ∷ h) = param
field (emitted code param holds ∷ h) = field h

-- "The number of proving units that Table 7 decided for that connection", where it comes up with the latest mark.
abbrev pub decided : ℕ → List Mark → ℕ
decided n1 h = table7 (mps h) (ups h) (asked (field h)) n1

-- THE OTHER SIDE. "Its present connection came up and has not been released by either end or by SSCOP, the number of proving units that Table 7 decided for
-- that connection was sent, its INS unit was sent after them, and the peer's INS unit was received on that same connection": one connection in all of it.
pub record Served (n1 : ℕ) (h : List Mark) : Type 0 where
  pub connection : Connection h
  pub proved : count proving_sent (since connection) ≡ decided n1 (begun connection)
  pub ins : Somewhere ins_sent (since connection)
  pub after_them : count proving_sent ins.earlier ≡ decided n1 (begun connection)
  pub peer : Somewhere ins_received (since connection)
