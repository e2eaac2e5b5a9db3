-- What is known where no check refuses, and what the calls come to. Assumes nothing.
use mathlib.Core.Path.{◌≡◌, subst}
use mathlib.Core.Bool.{true}
use mathlib.Core.List.{List}
use Prim.Native.Nat.{ℕ, ◌*◌, ◌≤◌, ◌<◌}
use native.Mathlib.Omega.{arith}
use lib.ListN.{length, drop}
use borrow.Author.Tests.{ltb-false, leb-false, not-false}
use Rattle.unit.specs.Checks.{passed, refused, first}
use Rattle.unit.proofs.Checks.{clear, onward, first_by}
use Rattle.link.specs.declared.Link.{Link}
use Rattle.link.specs.declared.Signal.{Signal}
use Rattle.link.specs.Step as machine
use Rattle.link.specs.Kept.{Keeps, After}
use Rattle.link.proofs.Kept.{kept}
use Rattle.octet.specs.Octets.{over, put_at}
use Rattle.record.specs.LinkRecord.{octets_of, well_formed}
use Rattle.event.specs.Frame.{EV, link_at, code_at, message_of}
use Rattle.event.specs.Fields.{field_checks}
use Rattle.event.specs.EventRecord.{framed, event_of, fields_in}
use Rattle.signal.specs.SignalRecord.{joined}
use Rattle.event.proofs.Frame.{sound, message_length}
use Rattle.signal.proofs.SignalRecord.{joined_small}
use Rattle.step.specs.declared.Refusal.{Refusal}
use Rattle.step.specs.Step.{records, record_at, link_for, checks, answered, answering, refused_by, step_call}

-- past the code the fields decide, and where they pass the checks behind them
pub field_checks_lem : (t e : List ℕ) (room : ℕ) →
    first (drop 3 (checks t e room)) ≡ onward Refusal.Field (first (field_checks (code_at e) (fields_in e))) (first (drop 9 (checks t e room)))
field_checks_lem t e room = first_by Refusal.Field (field_checks (code_at e) (fields_in e)) (drop 9 (checks t e room))

pub record Taken (t e : List ℕ) (room : ℕ) : Type 0 where
  pub sound : framed e ≡ true
  pub inside : link_at e < records t
  pub formed : well_formed (record_at t (link_at e)) ≡ true
  pub wide : 4240 ≤ room

pub taken : (t e : List ℕ) (room : ℕ) → first (checks t e room) ≡ passed → Taken t e room
taken t e room h =
    let c = clear (checks t e room) h in
    record {
      sound = not-false (framed e) c.1.0;
      inside = leb-false (records t) (link_at e) c.1.1.1.1.1.1.1.1.1.0;
      formed = not-false (well_formed (record_at t (link_at e))) c.1.1.1.1.1.1.1.1.1.1.0;
      wide = ltb-false room 4240 c.1.1.1.1.1.1.1.1.1.1.1.1.1.0;
    }

pub message_small : (e : List ℕ) → framed e ≡ true → length (message_of e) ≤ 4096
message_small e f = omega (arith, message_length EV e f, (sound EV e f).few)

-- what the event named by e makes of its link
abbrev pub Makes : List ℕ → List ℕ → Link → List Signal → Type 0
Makes t e next signals = machine.step_of (link_for t e) (event_of e) ≡ machine.Legal next signals

pub made_after : (t e : List ℕ) {next : Link} {signals : List Signal} → Makes t e next signals → After (link_for t e) next signals
made_after t e h = subst (Keeps (link_for t e)) h (kept (link_for t e) (event_of e))

-- all signals have room
pub room_for : (t e : List ℕ) {next : Link} {signals : List Signal} → framed e ≡ true → Makes t e next signals → length (joined (link_at e) (message_of e) signals) ≤ 4240
room_for t e {next} {signals} f h =
    let a = made_after t e h in
    joined_small (link_at e) (message_of e) signals a.eight a.one_message (message_small e f)

pub step_refused : (t e o : List ℕ) (r : Refusal) → first (checks t e (length o)) ≡ refused r → step_call t e o ≡ refused_by r t o
unfolding step_call
step_refused t e o r h = rw h

pub step_accepted : (t e o : List ℕ) {next : Link} {signals : List Signal} → first (checks t e (length o)) ≡ passed → Makes t e next signals →
    step_call t e o
    ≡ answering (answered 0 (length (joined (link_at e) (message_of e) signals)) (length signals) 0) (put_at t (20 * link_at e) (octets_of next)) (over (joined (link_at e) (message_of e) signals) o)
unfolding step_call
step_accepted t e o p h = rw (p, h)
