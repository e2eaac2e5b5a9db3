-- No second answer fits, of each function that other crates can call. Assumes nothing.
use Prim.Native.Nat.{ℕ}
use mathlib.Core.List.{List}
use Rattle.unit.specs.OneAnswer.{OneReading, OneAnswer}
use Rattle.unit.proofs.OneAnswer.{equal}
use Rattle.event.proofs.EventRecord.{one_reading}
use Rattle.event.proofs.front.Kinds as front-kinds
use Rattle.event.proofs.front.Reads as front
use Rattle.event.proofs.message.Kinds as message-kinds
use Rattle.event.proofs.message.Reads as message
use Rattle.event.proofs.event.Kinds as event-kinds
use Rattle.event.proofs.event.Reads as event
use Rattle.event.proofs.link.Kinds as link-kinds
use Rattle.event.proofs.link.Reads as link
use Rattle.event.proofs.Fault.number.Kinds as number-kinds
use Rattle.event.proofs.Fault.number.Reads as number
use Rattle.event.proofs.Fault.place.Kinds as place-kinds
use Rattle.event.proofs.Fault.place.Reads as place
use Rattle.event.proofs.FaultPartialEq.eq.Kinds as fault-eq-kinds
use Rattle.event.proofs.FaultPartialEq.eq.Reads as fault-eq
use Rattle.event.proofs.UnreadPartialEq.eq.Kinds as unread-eq-kinds
use Rattle.event.proofs.UnreadPartialEq.eq.Reads as unread-eq
use Rattle.event.proofs.read_event.Kinds as read-event-kinds
use Rattle.event.proofs.read_event.Reads as read-event

pub front_one : OneAnswer front-kinds.ps front-kinds.r front.Post
front_one κs arguments x y e f = equal

-- of a part of the caller's octets, what it holds
pub message_one : OneReading message-kinds.ps message-kinds.r (List ℕ) (λ κs arguments x e. x.now) message.Post
message_one κs arguments x y e f = equal

pub event_one : OneAnswer event-kinds.ps event-kinds.r event.Post
event_one κs arguments x y e f = equal

pub link_one : OneAnswer link-kinds.ps link-kinds.r link.Post
link_one κs arguments x y e f = equal

pub read_event_one : OneAnswer read-event-kinds.ps read-event-kinds.r read-event.Post
read_event_one κs arguments x y e f p q = one_reading x y (equal p q)

pub number_one : OneAnswer number-kinds.ps number-kinds.r number.Post
number_one κs arguments x y e f = equal

pub place_one : OneAnswer place-kinds.ps place-kinds.r place.Post
place_one κs arguments x y e f = equal

-- of the derived comparisons
pub fault_eq_one : OneAnswer fault-eq-kinds.ps fault-eq-kinds.r fault-eq.Post
fault_eq_one κs arguments x y e f = equal

pub unread_eq_one : OneAnswer unread-eq-kinds.ps unread-eq-kinds.r unread-eq.Post
unread_eq_one κs arguments x y e f = equal
