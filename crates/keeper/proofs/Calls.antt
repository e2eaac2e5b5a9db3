-- What the calls come to, by their checks: refused by one, or past all of them. Assumes nothing.
use Prim.Native.Nat.{ℕ, zero, suc, ◌+◌, ◌-◌, ◌*◌, ◌/◌, ◌<◌, ◌≤◌}
use native.Mathlib.Omega.{arith}
use mathlib.Core.Path.{◌≡◌, refl, sym, ap}
use mathlib.Core.Bool.{Bool, true, false, not, ◌&&◌, ◌||◌}
use mathlib.Core.List.{List, [], ◌∷◌}
use Rattle.std.specs.List.{list_any}
use Rattle.std.proofs.lemmas.Bool.Decides.{nat_tests}
use lib.Dec.{eqb, ltb, leb}
use lib.ListN.{length, get_or}
use borrow.Author.Tests.{eqb-true, eqb-false, ltb-false, leb-true, leb-false, le-leb, lt-leb, not-false}
use Rattle.unit.specs.Checks.{Verdict, passed, first, number_of}
use Rattle.unit.proofs.Checks.{clear, none_refuses}
use Rattle.octet.proofs.Branches.{neither}
use Rattle.keeper.specs.declared.DueAnswer.{DueAnswer}
use Rattle.keeper.specs.Deadlines.{idle, last_time, with_time, order_of, followed}
use Rattle.keeper.specs.Calls.{bad_lists, bad_periods, no_order, past_all, own_period, due_checks, order_checks, keeping, kept, fresh_deadlines, fresh_call, order_call, Names, DueCall}

-- GOOD LISTS
pub record Good (count n : ℕ) : Type 0 where
  pub some : 1 ≤ n
  pub most : n ≤ 256
  pub full : count ≡ 3 * n + 1

pub good : (count n : ℕ) → bad_lists count n ≡ false → Good count n
good count n h =
    let e = eqb n 0 in
    let l = ltb 256 n in
    let c = eqb count (3 * n + 1) in
    let a = neither (e || l) (not c) h in
    let b = neither e l a.0 in
    record { some = some n (eqb-false n 0 b.0); most = ltb-false 256 n b.1; full = eqb-true count (3 * n + 1) (not-false c a.1) } where
      some : (n : ℕ) → (n ≡ 0 → ⊥) → 1 ≤ n
      some zero z = absurd (z refl)
      some (suc n) z = omega arith

-- THE PERIODS, as the code looks through them
pub any_bad : (p : List ℕ) → list_any (λ x. not (leb 1 x && leb x 60000)) p ≡ bad_periods p
any_bad [] = refl
any_bad (x ∷ p) = grind (arith, nat_tests, any_bad p)

-- A PERIOD that passed is at least 1
pub period_some : (p : List ℕ) (i : ℕ) → bad_periods p ≡ false → i < length p → 1 ≤ get_or p i 0
period_some [] i b h = absurd (omega arith)
period_some (x ∷ p) zero b h = let e = neither (ltb x 1 || ltb 60000 x) (bad_periods p) b in ltb-false x 1 (neither (ltb x 1) (ltb 60000 x) e.0).0
period_some (x ∷ p) (suc i) b h = period_some p i (neither (ltb x 1 || ltb 60000 x) (bad_periods p) b).1 (omega arith)

-- DEADLINES THAT FIT: by what is left up to all ones
pub by_the_rest : (time x : ℕ) → time ≤ idle → leb (idle - time) x ≡ leb idle (time + x)
by_the_rest time x h = by (leb idle (time + x)) refl where
  by : (b : Bool) → leb idle (time + x) ≡ b → leb (idle - time) x ≡ b
  by true e = le-leb (idle - time) x (omega (arith, leb-true idle (time + x) e))
  by false e = lt-leb (idle - time) x (omega (arith, leb-false idle (time + x) e))

-- past all checks of an order
pub record Followed (d p : List ℕ) (link c time : ℕ) : Type 0 where
  pub lists : Good (length d) (length p)
  pub periods : bad_periods p ≡ false
  pub known : link < length p
  pub order : no_order (order_of c) ≡ false
  pub later : last_time d (length p) ≤ time
  pub fits : past_all (order_of c) (own_period p link) time ≡ false

pub order_past : (d p : List ℕ) (link c time : ℕ) → first (order_checks d p link c time) ≡ passed → Followed d p link c time
order_past d p link c time h =
    let t = clear (order_checks d p link c time) h in
    let o = neither (leb (length p) link) (no_order (order_of c)) t.1.1.0 in
    record {
      lists = good (length d) (length p) t.0;
      periods = t.1.0;
      known = leb-false (length p) link o.0;
      order = o.1;
      later = ltb-false time (last_time d (length p)) t.1.1.1.0;
      fits = t.1.1.1.1.0;
    }

pub order_passes : (d p : List ℕ) (link c time : ℕ) → number_of (first (order_checks d p link c time)) ≡ 0 → first (order_checks d p link c time) ≡ passed
order_passes d p link c time h =
    none_refuses (order_checks d p link c time) (omega arith, (omega arith, (omega arith, (omega arith, (omega arith, tt))))) h

-- and of a question
pub record Asked (d p : List ℕ) (time : ℕ) : Type 0 where
  pub lists : Good (length d) (length p)
  pub later : last_time d (length p) ≤ time

pub due_past : (d p : List ℕ) (time : ℕ) → first (due_checks d p time) ≡ passed → Asked d p time
due_past d p time h =
    let t = clear (due_checks d p time) h in
    record { lists = good (length d) (length p) t.0; later = ltb-false time (last_time d (length p)) t.1.1.0 }

pub due_passes : (d p : List ℕ) (time : ℕ) → number_of (first (due_checks d p time)) ≡ 0 → first (due_checks d p time) ≡ passed
due_passes d p time h = none_refuses (due_checks d p time) (omega arith, (omega arith, (omega arith, tt))) h

-- WHAT IS KEPT
pub fresh_made : (d : List ℕ) → bad_lists (length d) (length d / 3) ≡ false → keeping 0 (fresh_deadlines (length d / 3)) ≡ fresh_call d
unfolding fresh_call
fresh_made d b = rw b

pub order_followed : (d p : List ℕ) (link c time : ℕ) → first (order_checks d p link c time) ≡ passed →
    keeping 0 (with_time time (followed (order_of c) d link (own_period p link) time) (length p)) ≡ order_call d p link c time
unfolding order_call
order_followed d p link c time h =
    ap (λ (v : Verdict ℕ). kept v d (with_time time (followed (order_of c) d link (own_period p link) time) (length p))) (sym h)

-- AND WHAT IS TOLD
pub due_named : (d p : List ℕ) (time : ℕ) (a : DueAnswer) (after : List ℕ) → first (due_checks d p time) ≡ passed → Names d (length p) time a after → DueCall d p time a after
unfolding DueCall
due_named d p time a after h n = rw h n

pub names_of : (d p : List ℕ) (time : ℕ) (a : DueAnswer) (after : List ℕ) → first (due_checks d p time) ≡ passed → DueCall d p time a after → Names d (length p) time a after
unfolding DueCall
names_of d p time a after h n = rw h at n
