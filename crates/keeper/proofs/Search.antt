-- The search for the first of the least numbers below a bound. Assumes nothing.
use Prim.Native.Nat.{ℕ, zero, suc, ◌+◌, ◌<◌, ◌≤◌}
use native.Mathlib.Omega.{arith}
use mathlib.Core.Path.{◌≡◌, refl, subst}
use mathlib.Core.Bool.{Bool, true, false}
use mathlib.Core.Logic.{◌⊎◌, inl, inr, ⊎_elim}
use mathlib.Core.List.{List}
use lib.Dec.{ltb}
use lib.ListN.{get_or}
use borrow.Author.Count.{below_more}
use borrow.Author.Tests.{ltb-true, ltb-false, lt-ltb, le-ltb}
use Rattle.std.proofs.lemmas.Bool.{cases_lt}
use Rattle.keeper.specs.Deadlines.{idle}
use Rattle.keeper.specs.Searched.{bound_of, FirstBelow, NoneBelow}

-- before a turn of the loop: nothing below the bound so far, or what was found
abbrev pub SoFar : List ℕ → ℕ → ℕ → ℕ → ℕ → ℕ → Type 0
SoFar d end bound i found least = ((found ≡ end) × (least ≡ bound) × NoneBelow d i bound) ⊎ ((least ≡ get_or d found 0) × FirstBelow d i bound found)

-- SOMETHING IS FOUND, OR NOTHING IS BELOW THE BOUND, in any m numbers
abbrev Searched : List ℕ → ℕ → ℕ → Type 0
Searched d bound m = NoneBelow d m bound ⊎ ((place : ℕ) × FirstBelow d m bound place)

more : (P : ℕ → Type 0) (m : ℕ) → ((j : ℕ) → j < m → P j) → P m → (j : ℕ) → j < suc m → P j
more P m f x j h = ⊎_elim (λ t. f j t) (λ t. let e : m ≡ j = omega arith in subst P e x) (cases_lt j m)

-- what holds below i and of the next three holds below i + 3
pub three_more : (P : ℕ → Type 0) (i : ℕ) → ((j : ℕ) → j < i → P j) → P i → P (i + 1) → P (i + 2) → (j : ℕ) → j < i + 3 → P j
three_more P i f a b c j h =
    let e : i + 2 ≡ i + 1 + 1 = omega arith in
    below_more P (i + 1 + 1) (below_more P (i + 1) (below_more P i f a) b) (subst P e c) j (omega arith)

one_more : (d : List ℕ) (bound m : ℕ) → Searched d bound m → Searched d bound (suc m)
one_more d bound m (inl none) =
    ⊎_elim
    (λ h. inr (m, record { inside = omega arith; below = h; none_less = more (λ (j : ℕ). get_or d m 0 ≤ get_or d j 0) m (λ j t. omega (arith, none j t)) (omega arith); none_before = λ j t. omega (arith, none j t) }))
    (λ h. inl (more (λ (j : ℕ). bound ≤ get_or d j 0) m none h))
    (cases_lt (get_or d m 0) bound)
one_more d bound m (inr (k, f)) =
    ⊎_elim
    (λ h. inr (m, record { inside = omega arith; below = omega (arith, f.below); none_less = more (λ (j : ℕ). get_or d m 0 ≤ get_or d j 0) m (λ j t. omega (arith, f.none_less j t)) (omega arith); none_before = λ j t. omega (arith, f.none_less j t) }))
    (λ h. inr (k, record { inside = omega (arith, f.inside); below = f.below; none_less = more (λ (j : ℕ). get_or d k 0 ≤ get_or d j 0) m f.none_less h; none_before = f.none_before }))
    (cases_lt (get_or d m 0) (get_or d k 0))

pub search_all : (d : List ℕ) (bound m : ℕ) → Searched d bound m
search_all d bound zero = inl (λ j h. absurd (omega arith))
search_all d bound (suc m) = one_more d bound m (search_all d bound m)

-- THE BOUND: below it is what is due
pub bound_early : (time : ℕ) → time < idle → time + 1 ≡ bound_of time
bound_early time h = rw (lt-ltb time idle h)

pub bound_late : (time : ℕ) → idle ≤ time → idle ≡ bound_of time
bound_late time h = rw (le-ltb time idle h)

pub below_bound : (time x : ℕ) → x < bound_of time → (x < idle) × (x ≤ time)
below_bound time x h = by (ltb time idle) refl where
  by : (b : Bool) → ltb time idle ≡ b → (x < idle) × (x ≤ time)
  by true t = let e = bound_early time (ltb-true time idle t) in (omega (arith, ltb-true time idle t), omega arith)
  by false t = let e = bound_late time (ltb-false time idle t) in (omega arith, omega (arith, ltb-false time idle t))

pub due_below : (time x : ℕ) → x < idle → x ≤ time → x < bound_of time
due_below time x h g = by (ltb time idle) refl where
  by : (b : Bool) → ltb time idle ≡ b → x < bound_of time
  by true t = omega (arith, bound_early time (ltb-true time idle t))
  by false t = omega (arith, bound_late time (ltb-false time idle t))
