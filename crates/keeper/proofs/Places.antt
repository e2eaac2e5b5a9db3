-- The places of the list: each belongs to one timer of one link. Assumes nothing.
use Prim.Native.Nat.{ℕ, zero, suc, ◌+◌, ◌*◌, ◌/◌, ◌%◌, ◌<◌, ◌≤◌}
use native.Mathlib.Omega.{arith}
use mathlib.Core.Path.{◌≡◌, refl, sym, ap, ◌∙◌}
use Rattle.table6.specs.Cell.{Timer, T1, T2, T3}
use Rattle.keeper.specs.Deadlines.{rank, place_of, expiry}

pub rank_below : (t : Timer) → rank t < 3
rank_below T1 = omega arith
rank_below T2 = omega arith
rank_below T3 = omega arith

-- a timer by its rank
abbrev pub ranked : ℕ → Timer
ranked zero = T1
ranked (suc zero) = T2
ranked (suc (suc r)) = T3

ranked_back : (t : Timer) → ranked (rank t) ≡ t
ranked_back T1 = refl
ranked_back T2 = refl
ranked_back T3 = refl

rank_back : (r : ℕ) → r < 3 → rank (ranked r) ≡ r
rank_back zero h = refl
rank_back (suc zero) h = refl
rank_back (suc (suc zero)) h = refl
rank_back (suc (suc (suc r))) h = absurd (omega arith)

pub same_rank : (s t : Timer) → rank s ≡ rank t → s ≡ t
same_rank s t e = sym (ranked_back s) ∙ ap ranked e ∙ ranked_back t

-- the timer of a place, which is its link's
abbrev pub timer_at : ℕ → Timer
timer_at p = ranked (p % 3)

pub rank_at : (p : ℕ) → rank (timer_at p) ≡ p % 3
rank_at p = rank_back (p % 3) (omega arith)

pub place_back : (p : ℕ) → place_of (p / 3) (timer_at p) ≡ p
place_back p = omega (arith, rank_at p)

expiry_ranked : (r : ℕ) → r < 3 → expiry (ranked r) ≡ 48 + r
expiry_ranked zero h = refl
expiry_ranked (suc zero) h = refl
expiry_ranked (suc (suc zero)) h = refl
expiry_ranked (suc (suc (suc r))) h = absurd (omega arith)

pub expiry_at : (p : ℕ) → expiry (timer_at p) ≡ 48 + p % 3
expiry_at p = expiry_ranked (p % 3) (omega arith)

pub expiry_some : (t : Timer) → 1 ≤ expiry t
expiry_some T1 = omega arith
expiry_some T2 = omega arith
expiry_some T3 = omega arith

pub same_expiry : (s t : Timer) → expiry s ≡ expiry t → s ≡ t
same_expiry s t e = same_rank s t (omega (arith, shown s, shown t, e)) where
  shown : (t : Timer) → expiry t ≡ 48 + rank t
  shown T1 = refl
  shown T2 = refl
  shown T3 = refl

pub place_below : (n j : ℕ) (s : Timer) → j < n → place_of j s < 3 * n
place_below n j s h = omega (arith, rank_below s)

pub same_place : (j k : ℕ) (s t : Timer) → place_of j s ≡ place_of k t → (j ≡ k) × (s ≡ t)
same_place j k s t e =
    let a = rank_below s in
    let b = rank_below t in
    (omega arith, same_rank s t (omega arith))
