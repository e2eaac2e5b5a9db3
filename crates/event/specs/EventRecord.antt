-- The event record of document 01: when its frame is sound, what a code says, and whether its fields fit it.
use Rattle.std.specs.Prelude.{ℕ, ◌≤◌, ◌≡◌, Bool, true, false, cond, List, [], ◌∷◌, Result, Ok, Err, eqb, length}
use Rattle.unit.specs.declared.Arrived.{Arrived}
use Rattle.unit.specs.Unit.{arrived}
use Rattle.unit.specs.Checks.{Verdict, passed, refused, first}
use Rattle.table6.specs.EventCodes.{MESSAGE-FOR-TRANSMISSION, EMERGENCY, EMERGENCY-CEASES, STOP, START, RETRIEVE-BSNT, RETRIEVAL-REQUEST-AND-FSNC, FLUSH-BUFFERS, CONTINUE}
use Rattle.table6.specs.EventCodes.{ESTABLISH-indication, ESTABLISH-confirm, RELEASE-indication, RELEASE-confirm, DATA-indication, RESYNC-indication, RECOVER-indication}
use Rattle.table6.specs.EventCodes.{UNITDATA-indication, RETRIEVE-indication, RETRIEVE-COMPLETE-indication}
use Rattle.table6.specs.EventCodes.{PROVING-UNSUCCESSFUL, RELEASE, OUTAGE, RECOVERED, FORCE-PROVING, FORCE-EMERGENCY, CLEAR-FORCE-MODES, CONGESTION, CONGESTION-CEASED}
use Rattle.table6.specs.EventCodes.{T1-expired, T2-expired, T3-expired}
use Rattle.table6.specs.RefusalCodes.{REFUSED-FRAME, REFUSED-CODE}
use Rattle.link.specs.declared.Num.{Num}
use Rattle.link.specs.declared.Event.{Event}
use Rattle.link.specs.declared.Event.TheVariants as event
use Rattle.event.specs.declared.Unread.{Unread}
use Rattle.event.specs.declared.Fault.{Fault}
use Rattle.link.specs.Signal.{num, none}
use Rattle.octet.specs.Octets.{Octets}
use Rattle.event.specs.Frame.{message_octets, EV, framed_as, written, link_at, code_at, param_at, number_at, length_at, message_of}
use Rattle.event.specs.Fields.{fault_number, fault_place, EventField, fields, field_checks}

abbrev pub framed : List ℕ → Bool
framed e = framed_as EV e

-- EVENTS AND CODES

-- What an event carries in its record: code, parameter and number.
pub record Carried : Type 0 where
  pub code : ℕ
  pub param : ℕ
  pub num : Num

abbrev pub carrying : ℕ → ℕ → Num → Carried
carrying c p n = record { code = c; param = p; num = n }

abbrev pub carried : Event → Carried
carried event.Message = carrying MESSAGE-FOR-TRANSMISSION 0 none
carried event.Emergency = carrying EMERGENCY 0 none
carried event.EmergencyCeases = carrying EMERGENCY-CEASES 0 none
carried event.Stop = carrying STOP 0 none
carried event.Start = carrying START 0 none
carried event.RetrieveBsnt = carrying RETRIEVE-BSNT 0 none
carried (event.Retrieval n) = carrying RETRIEVAL-REQUEST-AND-FSNC 0 n
carried event.FlushBuffers = carrying FLUSH-BUFFERS 0 none
carried event.Continue = carrying CONTINUE 0 none
carried (event.EstablishIndication p) = carrying ESTABLISH-indication p none
carried (event.EstablishConfirm p) = carrying ESTABLISH-confirm p none
carried (event.ReleaseIndication p s) = carrying RELEASE-indication p (num 0 0 s)
carried event.ReleaseConfirm = carrying RELEASE-confirm 0 none
carried (event.Data a n) = carrying DATA-indication 0 n
carried event.Resync = carrying RESYNC-indication 0 none
carried event.Recover = carrying RECOVER-indication 0 none
carried event.UnitData = carrying UNITDATA-indication 0 none
carried (event.Retrieve len) = carrying RETRIEVE-indication 0 none
carried event.RetrieveComplete = carrying RETRIEVE-COMPLETE-indication 0 none
carried event.ProvingUnsuccessful = carrying PROVING-UNSUCCESSFUL 0 none
carried event.Release = carrying RELEASE 0 none
carried event.Outage = carrying OUTAGE 0 none
carried event.Recovered = carrying RECOVERED 0 none
carried event.ForceProving = carrying FORCE-PROVING 0 none
carried event.ForceEmergency = carrying FORCE-EMERGENCY 0 none
carried event.ClearForceModes = carrying CLEAR-FORCE-MODES 0 none
carried (event.Congestion p) = carrying CONGESTION p none
carried event.CongestionCeased = carrying CONGESTION-CEASED 0 none
carried event.T1 = carrying T1-expired 0 none
carried event.T2 = carrying T2-expired 0 none
carried event.T3 = carrying T3-expired 0 none

-- All events, in the order of their codes, with this parameter, this number, this length of the message and what arrived in those that hold it.
abbrev pub events : ℕ → Num → ℕ → Arrived → List Event
events p n len a =
    event.Message
    ∷ event.Emergency
    ∷ event.EmergencyCeases
    ∷ event.Stop
    ∷ event.Start
    ∷ event.RetrieveBsnt
    ∷ event.Retrieval n
    ∷ event.FlushBuffers
    ∷ event.Continue
    ∷ event.EstablishIndication p
    ∷ event.EstablishConfirm p
    ∷ event.ReleaseIndication p n.c
    ∷ event.ReleaseConfirm
    ∷ event.Data a n
    ∷ event.Resync
    ∷ event.Recover
    ∷ event.UnitData
    ∷ event.Retrieve len
    ∷ event.RetrieveComplete
    ∷ event.ProvingUnsuccessful
    ∷ event.Release
    ∷ event.Outage
    ∷ event.Recovered
    ∷ event.ForceProving
    ∷ event.ForceEmergency
    ∷ event.ClearForceModes
    ∷ event.Congestion p
    ∷ event.CongestionCeased
    ∷ event.T1
    ∷ event.T2
    ∷ event.T3
    ∷ []

-- What a code says: an event, or nothing that document 01 has.
pub data Coded : Type 0 where
  Unknown : Coded
  Of : Event → Coded

abbrev pub among : ℕ → List Event → Coded
among c [] = Coded.Unknown
among c (x ∷ others) = cond (eqb c (carried x).code) (Coded.Of x) (among c others)

unfoldable pub coded_at : ℕ → ℕ → Num → ℕ → Arrived → Coded
coded_at c p n len a = among c (events p n len a)

abbrev pub coded_in : List ℕ → Coded
coded_in e = coded_at (code_at e) (param_at e) (number_at e) (length_at e) (arrived (message_of e))

-- what the code says; where it says nothing, check 3 refuses
abbrev pub said : Coded → Event
said Coded.Unknown = event.Continue
said (Coded.Of x) = x

abbrev pub event_of : List ℕ → Event
event_of e = said (coded_in e)

abbrev pub unknown : Coded → Bool
unknown Coded.Unknown = true
unknown (Coded.Of x) = false

abbrev pub fields_in : List ℕ → List EventField
fields_in e = fields (param_at e) (number_at e) (length_at e)

-- WHAT OCTETS ARE AS AN EVENT RECORD: refused by the first of checks 2, 3, 10, 11 and 12 that holds, or sound.

-- A refusal's number and its place, 0 where it names none.
pub record Refused : Type 0 where
  pub number : ℕ
  pub place : ℕ

infixl 20 ◌at_place◌
abbrev pub ◌at_place◌ : ℕ → ℕ → Refused
n at_place q = record { number = n; place = q }

-- The reader's answers in the papers' numbers. A sound record brings no value with it: what it holds is read off its octets.
abbrev pub reading : Result (Unit {0}) Unread → Verdict Refused
reading (Ok fits) = passed
reading (Err Unread.BadFrame) = refused (REFUSED-FRAME at_place 0)
reading (Err Unread.UnknownCode) = refused (REFUSED-CODE at_place 0)
reading (Err (Unread.Misfit f)) = refused (fault_number f at_place fault_place f)

abbrev pub fitting : Verdict Fault → Verdict Refused
fitting passed = passed
fitting (refused f) = refused (fault_number f at_place fault_place f)

abbrev pub saying : Coded → Verdict Fault → Verdict Refused
saying Coded.Unknown v = refused (REFUSED-CODE at_place 0)
saying (Coded.Of x) v = fitting v

unfoldable pub fields_of : List ℕ → Verdict Refused
fields_of e = saying (coded_in e) (first (field_checks (code_at e) (fields_in e)))

unfoldable pub reading_of : List ℕ → Verdict Refused
reading_of e = cond (framed e) (fields_of e) (refused (REFUSED-FRAME at_place 0))

-- ROUND TRIPS

abbrev pub Each : (Event → Type 0) → List Event → Type 0
Each P [] = Unit {0}
Each P (x ∷ others) = P x × Each P others

-- Octets that hold an event for a link.
pub record Holds (e : List ℕ) (k : ℕ) (x : Event) : Type 0 where
  pub fits : reading_of e ≡ passed
  pub link : link_at e ≡ k
  pub event : event_of e ≡ x

-- Reading what was written: each event's code, with whatever fits it, is read as that event.
abbrev pub Reread : Type 0
Reread =
    (link p : ℕ) (n : Num) (m : List ℕ) → length m ≤ message_octets →
    Each (λ x. first (field_checks (carried x).code (fields p n (length m))) ≡ passed → Holds (written EV link (carried x).code p n m) link x) (events p n (length m) (arrived m))

abbrev pub event_octets : ℕ → Event → List ℕ → List ℕ
event_octets link e m = written EV link (carried e).code (carried e).param (carried e).num m

-- Writing what was read gives the same octets: nothing in a record that is taken goes unread.
abbrev pub Rewritten : Type 0
Rewritten = (e : List ℕ) (link : ℕ) (x : Event) → Octets e → Holds e link x → event_octets link x (message_of e) ≡ e
