-- What a burst comes to, where it is refused and where it is not. Assumes nothing.
use mathlib.Core.Path.{◌≡◌, refl}
use mathlib.Core.Bool.{false}
use mathlib.Core.List.{List}
use Prim.Native.Nat.{ℕ, ◌≤◌}
use lib.ListN.{length}
use borrow.Author.Tests.{le-ltb, ltb-false}
use Rattle.unit.specs.Checks.{Verdict, passed, refused, first}
use Rattle.unit.proofs.Checks.{clear}
use Rattle.event.specs.EndToEnd.{frames}
use Rattle.step.specs.declared.Refusal.{Refusal}
use Rattle.step.specs.Checks.{number}
use Rattle.step.specs.Step.{bad_table}
use Rattle.sscf.specs.Burst.{singly, BurstOutcome, bursting, burst_answered, burst_checks, came, burst, burst_call}

module _ (t es o l : List ℕ) where
  pub burst_refused : (r : Refusal) → first (burst_checks t es l) ≡ refused r → burst_call t es o l ≡ bursting (burst_answered (number r) 0 0 0 0 0) t o l
  unfolding burst_call
  burst_refused r h = rw h

  pub burst_passed : first (burst_checks t es l) ≡ passed → burst_call t es o l ≡ came (singly (frames es) t o) t es o l
  unfolding burst_call
  burst_passed h = rw h

  -- both checks are passed, and what that says
  pub record Open : Type 0 where
    pub good : bad_table t ≡ false
    pub places : length (frames es) ≤ length l

  pub both : Open → first (burst_checks t es l) ≡ passed
  both p = rw (p.good, le-ltb (length l) (length (frames es)) p.places)

  pub opened : first (burst_checks t es l) ≡ passed → Open
  opened h =
      let c = clear (burst_checks t es l) h in
      record { good = c.0; places = ltb-false (length l) (length (frames es)) c.1.0 }

  -- a burst is refused, or its calls are made
  module _ (P : BurstOutcome → Type 0) (r : (x : Refusal) → first (burst_checks t es l) ≡ refused x → P (bursting (burst_answered (number x) 0 0 0 0 0) t o l))
      (a : Open → P (came (singly (frames es) t o) t es o l)) where
    by_verdict : (v : Verdict Refusal) → first (burst_checks t es l) ≡ v → P (burst v t es o l)
    by_verdict (refused x) h = r x h
    by_verdict passed h = a (opened h)

    pub either_burst : P (burst_call t es o l)
    unfolding burst_call
    either_burst = by_verdict (first (burst_checks t es l)) refl
