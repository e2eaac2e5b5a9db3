-- What holds of a step on all octets. Each is shown for a refusal and for an acceptance. Assumes nothing.
use mathlib.Core.Path.{◌≡◌, refl, sym, ap, ◌∙◌}
use mathlib.Core.Bool.{Bool, true, false}
use mathlib.Core.Logic.{◌⊎◌, inl, inr}
use mathlib.Core.List.{List}
use Prim.Native.Nat.{ℕ, ◌*◌, ◌≤◌, ◌<◌}
use native.Mathlib.Omega.{arith}
use lib.Dec.{eqb, ltb}
use lib.ListN.{length, take, drop}
use borrow.Author.Tests.{eqb-true, eqb-false, ltb-true, ltb-false, le-ltb}
use Rattle.unit.specs.Checks.{Verdict, passed, refused, first}
use Rattle.unit.proofs.Checks.{clear, none}
use Rattle.link.specs.declared.Link.{Link}
use Rattle.link.specs.declared.Signal.{Signal}
use Rattle.link.specs.Step as machine
use Rattle.octet.specs.Octets.{over, put_at}
use Rattle.record.specs.LinkRecord.{well_formed, octets_of, GoodLink}
use Rattle.event.specs.Frame.{EV, link_at, message_of}
use Rattle.event.specs.EventRecord.{event_of}
use Rattle.signal.specs.SignalRecord.{joined}
use Rattle.event.proofs.Frame.{sound, message_length}
use Rattle.signal.proofs.SignalRecord.{joined_within}
use Rattle.octet.proofs.Over.{length_over, over_front, over_rest, length_put, put_there, put_before, put_after}
use Rattle.record.proofs.LinkRecord.{octets_length, packed_well, unpacked_good}
use Rattle.event.specs.declared.Fault.{Fault}
use Rattle.step.specs.declared.Refusal.{Refusal}
use Rattle.step.specs.Checks.{number}
use Rattle.step.specs.Step.{record_at, link_for, checks, Outcome, answered, answering, refused_by, performed, outcome, step_call}
use Rattle.step.specs.Untouched.{RefusalsUntouched, OthersUntouched, RestUntouched, AtMost4240, AtMostTwelvefold, SameLengths, Refused4239, Taken4240, Written, AcceptedWritten, StaysWellFormed}
use Rattle.step.proofs.Places.{inside}
use Rattle.step.proofs.Taken.{taken, Makes, made_after, room_for, step_accepted}

-- what an accepted step comes to
abbrev done : List ℕ → List ℕ → List ℕ → Link → List Signal → Outcome
done t e o next signals =
    answering (answered 0 (length (joined (link_at e) (message_of e) signals)) (length signals) 0) (put_at t (20 * link_at e) (octets_of next)) (over (joined (link_at e) (message_of e) signals) o)

-- a step is refused, or it is accepted
module _ (t e o : List ℕ) (P : Outcome → Type 0) (r : (x : Refusal) → P (refused_by x t o))
    (a : (next : Link) (signals : List Signal) → first (checks t e (length o)) ≡ passed → Makes t e next signals → P (done t e o next signals)) where
  by_cell : (w : machine.Outcome) → machine.step_of (link_for t e) (event_of e) ≡ w → first (checks t e (length o)) ≡ passed →
      P (performed w t (link_at e) (message_of e) o)
  by_cell machine.Illegal h p = r Refusal.Cell
  by_cell (machine.Legal next signals) h p = a next signals p h

  by_verdict : (v : Verdict Refusal) → first (checks t e (length o)) ≡ v → P (outcome v t e o)
  by_verdict (refused x) h = r x
  by_verdict passed h = by_cell (machine.step_of (link_for t e) (event_of e)) refl h

  pub either_way : P (step_call t e o)
  unfolding step_call
  either_way = by_verdict (first (checks t e (length o))) refl

pub number_above : (x : Refusal) → 1 ≤ number x
number_above Refusal.Table = omega arith
number_above Refusal.Frame = omega arith
number_above Refusal.Code = omega arith
number_above (Refusal.Field (Fault.NotCarried q)) = omega arith
number_above (Refusal.Field (Fault.OutOfRange q)) = omega arith
number_above (Refusal.Field (Fault.Short q)) = omega arith
number_above Refusal.Link = omega arith
number_above Refusal.Record = omega arith
number_above Refusal.Timer = omega arith
number_above Refusal.Cell = omega arith
number_above Refusal.Room = omega arith
number_above Refusal.List = omega arith

pub refusals_untouched : RefusalsUntouched
refusals_untouched t e o =
    either_way t e o (λ z. 1 ≤ z.answer.refusal → z ≡ answering (answered z.answer.refusal 0 0 z.answer.place) t o) (λ x h. refl) (λ next signals p m h. absurd (omega arith))

pub rest_untouched : RestUntouched
rest_untouched t e o =
    either_way t e o (λ z. drop z.answer.octets z.output ≡ drop z.answer.octets o) (λ x. refl)
    (λ next signals p m. over_rest (joined (link_at e) (message_of e) signals) o)

pub at_most_4240 : AtMost4240
at_most_4240 t e o =
    either_way t e o (λ z. z.answer.octets ≤ 4240) (λ x. omega arith) (λ next signals p m. room_for t e (taken t e (length o) p).sound m)

pub at_most_twelvefold : AtMostTwelvefold
at_most_twelvefold t e o =
    either_way t e o (λ z. z.answer.octets ≤ 12 * length e) (λ x. omega arith)
    (λ next signals p m.
    let f = (taken t e (length o) p).sound in
    let a = made_after t e m in
    omega (arith, joined_within (link_at e) (message_of e) signals a.eight a.one_message, message_length EV e f, (sound EV e f).follows))

pub same_lengths : SameLengths
same_lengths t e o =
    either_way t e o (λ z. (length z.table ≡ length t) × (length z.output ≡ length o)) (λ x. (refl, refl))
    (λ next signals p m. let k = taken t e (length o) p in (
      length_put t (octets_of next) (20 * link_at e) (omega (arith, octets_length next, inside t (link_at e) k.inside)),
      length_over (joined (link_at e) (message_of e) signals) o (omega (arith, room_for t e k.sound m, k.wide)),
    ))

-- THE OTHER RECORDS

apart : (k j : ℕ) → (k ≡ j → ⊥) → (k < j) ⊎ (j < k)
apart k j h = by (ltb k j) refl where
  by : (b : Bool) → ltb k j ≡ b → (k < j) ⊎ (j < k)
  by true e = inl (ltb-true k j e)
  by false e = inr (omega (arith, ltb-false k j e, h))

other_record : (t r : List ℕ) (j k : ℕ) → length r ≡ 20 → 20 * j ≤ length t → (k < j) ⊎ (j < k) → record_at (put_at t (20 * j) r) k ≡ record_at t k
other_record t r j k n h (inl l) = put_before t r (20 * j) (20 * k) 20 h (omega arith)
other_record t r j k n h (inr l) = ap (take 20) (put_after t r (20 * j) (20 * k) h (omega arith))

pub this_record : (t r : List ℕ) (j : ℕ) → length r ≡ 20 → 20 * j ≤ length t → record_at (put_at t (20 * j) r) j ≡ r
this_record t r j n h = ap (λ (i : ℕ). take i (drop (20 * j) (put_at t (20 * j) r))) (sym n) ∙ put_there t r (20 * j) h

-- the named record has its place in the table
placed : (t e o : List ℕ) → first (checks t e (length o)) ≡ passed → 20 * link_at e ≤ length t
placed t e o p = omega (arith, inside t (link_at e) (taken t e (length o) p).inside)

pub others_untouched : OthersUntouched
others_untouched t e o k h =
    either_way t e o (λ z. record_at z.table k ≡ record_at t k) (λ x. refl)
    (λ next signals p m. other_record t (octets_of next) (link_at e) k (octets_length next) (placed t e o p) (apart k (link_at e) h))

-- ACCEPTANCE

pub accepted_written : AcceptedWritten
accepted_written t e o =
    either_way t e o (λ z. z.answer.refusal ≡ 0 → Written t e z) (λ x h. absurd (omega (arith, number_above x)))
    (λ next signals p m h. record {
      next = next;
      signals = signals;
      gives = m;
      counted = refl;
      octets = over_front (joined (link_at e) (message_of e) signals) o;
      packed = this_record t (octets_of next) (link_at e) (octets_length next) (placed t e o p);
    })

pub refused_4239 : Refused4239
refused_4239 t e o h =
    either_way t e o (λ z. 1 ≤ z.answer.refusal) number_above (λ next signals p m. absurd (omega (arith, (taken t e (length o) p).wide)))

-- the room is the last check
other_room : (t e : List ℕ) (a b : ℕ) → 4240 ≤ b → first (checks t e a) ≡ passed → first (checks t e b) ≡ passed
other_room t e a b w h =
    let c = clear (checks t e a) h in
    none (checks t e b)
    (c.0, (c.1.0, (c.1.1.0, (c.1.1.1.0, (c.1.1.1.1.0, (c.1.1.1.1.1.0, (c.1.1.1.1.1.1.0, (c.1.1.1.1.1.1.1.0, (c.1.1.1.1.1.1.1.1.0, (c.1.1.1.1.1.1.1.1.1.0, (c.1.1.1.1.1.1.1.1.1.1.0, (c.1.1.1.1.1.1.1.1.1.1.1.0, (c.1.1.1.1.1.1.1.1.1.1.1.1.0, (le-ltb b 4240 w, tt))))))))))))))

pub taken_4240 : Taken4240
taken_4240 t e o p h n =
    either_way t e o (λ z. z.answer.refusal ≡ 0 → (step_call t e p).answer ≡ z.answer) (λ x h. absurd (omega (arith, number_above x)))
    (λ next signals q m h. ap (λ (z : Outcome). z.answer) (step_accepted t e p (other_room t e (length o) (length p) (omega arith) q) m))
    h

-- a well-formed record stays well-formed
good_next : (t e : List ℕ) {next : Link} {signals : List Signal} → Makes t e next signals → well_formed (record_at t (link_at e)) ≡ true → GoodLink next
good_next t e m w =
    let a = made_after t e m in
    let g = unpacked_good (record_at t (link_at e)) w in
    (omega (arith, a.n1, g.0), a.bsnt g.1, a.last g.2)

pub stays_well_formed : StaysWellFormed
stays_well_formed t e o k w =
    either_way t e o (λ z. well_formed (record_at z.table k) ≡ true) (λ x. w) (λ next signals p m. by next signals p m (eqb k (link_at e)) refl) where
      by : (next : Link) (signals : List Signal) → first (checks t e (length o)) ≡ passed → Makes t e next signals → (b : Bool) → eqb k (link_at e) ≡ b →
          well_formed (record_at (put_at t (20 * link_at e) (octets_of next)) k) ≡ true
      by next signals p m true h =
          let e' = eqb-true k (link_at e) h in
          ap (λ (j : ℕ). well_formed (record_at (put_at t (20 * link_at e) (octets_of next)) j)) e'
          ∙ ap well_formed (this_record t (octets_of next) (link_at e) (octets_length next) (placed t e o p))
          ∙ packed_well next (good_next t e m (ap (λ (j : ℕ). well_formed (record_at t j)) (sym e') ∙ w))
      by next signals p m false h =
          ap well_formed (other_record t (octets_of next) (link_at e) k (octets_length next) (placed t e o p) (apart k (link_at e) (eqb-false k (link_at e) h))) ∙ w
