-- What holds of the fresh-table maker on all octets. Assumes nothing.
use mathlib.Core.Path.{◌≡◌, refl, sym, ap, subst, ◌∙◌}
use mathlib.Core.Bool.{Bool, true, false, cond}
use mathlib.Core.Logic.{◌⊎◌, inl, inr}
use mathlib.Core.List.{List, ◌++◌}
use Prim.Native.Nat.{ℕ, zero, suc, ◌+◌, ◌*◌, ◌≤◌, ◌<◌}
use native.Mathlib.Omega.{arith}
use lib.Dec.{eqb}
use lib.ListN.{length, take, drop}
use lib.Seq.{take_at, drop_at, drop-drop}
use borrow.Author.Tests.{eqb-true, eqb-false}
use Rattle.unit.specs.Checks.{Verdict, passed, refused, first}
use Rattle.unit.proofs.Checks.{clear}
use Rattle.link.specs.Fresh.{fresh_link}
use Rattle.record.specs.LinkRecord.{well_formed, octets_of}
use Rattle.record.proofs.LinkRecord.{octets_length, packed_well}
use Rattle.event.specs.declared.Fault.{Fault}
use Rattle.step.specs.declared.Refusal.{Refusal}
use Rattle.step.specs.Checks.{number, place}
use Rattle.step.specs.Step.{bad_table, records, record_at}
use Rattle.sscf.specs.Fresh.{fresh_checks, Made, copies, made, fresh_call}
use Rattle.sscf.specs.Untouched.{FreshRefusalsUntouched, AllFresh, FreshWellFormed, FreshPlace}
use Rattle.step.proofs.Untouched.{number_above}

-- a table is refused, or it is made
module _ (t : List ℕ) (n1 : ℕ) (P : Made → Type 0) (r : (x : Refusal) → first (fresh_checks t n1) ≡ refused x → P (made (refused x) t n1))
    (a : first (fresh_checks t n1) ≡ passed → P (made passed t n1)) where
  by_verdict : (v : Verdict Refusal) → first (fresh_checks t n1) ≡ v → P (made v t n1)
  by_verdict (refused x) h = r x h
  by_verdict passed h = a h

  either_way : P (fresh_call t n1)
  unfolding fresh_call
  either_way = by_verdict (first (fresh_checks t n1)) refl

pub fresh_refusals_untouched : FreshRefusalsUntouched
fresh_refusals_untouched t n1 = either_way t n1 (λ z. 1 ≤ z.answer.refusal → z.table ≡ t) (λ x e h. refl) (λ p h. absurd (omega arith))

-- record k of copies
copy_at : (r : List ℕ) → length r ≡ 20 → (n k : ℕ) → k < n → record_at (copies n r) k ≡ r
copy_at r e zero k h = absurd (omega arith)
copy_at r e (suc n) zero h = take_at r (copies n r) 20 e
copy_at r e (suc n) (suc k) h =
    let p : 20 * suc k ≡ 20 + 20 * k = omega arith in
    ap (λ (i : ℕ). take 20 (drop i (r ++ copies n r))) p
    ∙ ap (take 20) (sym (drop-drop (20 * k) 20 (r ++ copies n r)) ∙ ap (drop (20 * k)) (drop_at r (copies n r) 20 e))
    ∙ copy_at r e n k (omega arith)

pub all_fresh : AllFresh
all_fresh t n1 k =
    either_way t n1 (λ z. z.answer.refusal ≡ 0 → k < records t → record_at z.table k ≡ octets_of (fresh_link n1)) (λ x e h. absurd (omega (arith, number_above x)))
    (λ p h. copy_at (octets_of (fresh_link n1)) (octets_length (fresh_link n1)) (records t) k)

above : (n1 : ℕ) → eqb n1 0 ≡ false → 1 ≤ n1
above zero h = absurd (eqb-false 0 0 h refl)
above (suc n) h = omega arith

pub fresh_well_formed : FreshWellFormed
fresh_well_formed t n1 k h l =
    ap well_formed (all_fresh t n1 k h l)
    ∙ either_way t n1 (λ z. z.answer.refusal ≡ 0 → well_formed (octets_of (fresh_link n1)) ≡ true) (λ x e h. absurd (omega (arith, number_above x)))
    (λ p h. packed_well (fresh_link n1) (above n1 (clear (fresh_checks t n1) p).1.0, λ e. refl, refl))
    h

-- 11 exactly past a good table, with n1 0
abbrev Place : List ℕ → ℕ → ℕ → ℕ → Type 0
Place t n1 r q = ((r ≡ 11) × (q ≡ 14) × (n1 ≡ 0) × (bad_table t ≡ false)) ⊎ ((r ≤ 1) × (q ≡ 0) × (n1 ≡ 0 → bad_table t ≡ true))

abbrev Placed : List ℕ → ℕ → Verdict Refusal → Type 0
Placed t n1 passed = Place t n1 0 0
Placed t n1 (refused x) = Place t n1 (number x) (place x)

placed : (t : List ℕ) (n1 : ℕ) (a b : Bool) → bad_table t ≡ a → eqb n1 0 ≡ b → Placed t n1 (cond a (refused Refusal.Table) (cond b (refused (Refusal.Field (Fault.OutOfRange 14))) passed))
placed t n1 true b g h = inr (omega arith, refl, λ z. g)
placed t n1 false true g h = inl (refl, refl, eqb-true n1 0 h, g)
placed t n1 false false g h = inr (omega arith, refl, λ z. absurd (eqb-false n1 0 h z))

pub fresh_place : FreshPlace
fresh_place t n1 =
    let v = placed t n1 (bad_table t) (eqb n1 0) refl refl in
    either_way t n1 (λ z. Place t n1 z.answer.refusal z.answer.place) (λ x h. subst (Placed t n1) h v) (λ p. subst (Placed t n1) p v)
