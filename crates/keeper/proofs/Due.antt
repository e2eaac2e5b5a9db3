-- What the search finds is the earliest due, no two are, and how what is due changes as one is named. Assumes nothing.
use Prim.Native.Nat.{ℕ, ◌+◌, ◌-◌, ◌*◌, ◌/◌, ◌%◌, ◌<◌}
use native.Mathlib.Omega.{arith}
use mathlib.Core.Path.{◌≡◌, refl, sym, ap}
use mathlib.Core.Bool.{Bool, true, false}
use mathlib.Core.Logic.{◌⊎◌, inl, inr, ⊎_elim}
use mathlib.Core.List.{List}
use lib.Dec.{ltb, eqb}
use lib.ListN.{length, get_or, set}
use Rattle.unit.specs.Checks.{passed, first}
use Rattle.keeper.proofs.Calls.{due_past, due_named}
use borrow.Author.Tests.{ltb-true, ltb-false, eqb-true, eqb-false}
use Rattle.table6.specs.Cell.{Timer}
use Rattle.keeper.specs.Deadlines.{idle, rank, place_of, deadline}
use Rattle.keeper.specs.Due.{Before, EarliestDue, NothingDue, Named, nothing, one, Rightly}
use Rattle.keeper.specs.Calls.{due_checks, answered, Names, DueCall}
use Rattle.keeper.specs.Searched.{bound_of, FirstBelow, NoneBelow}
use Rattle.keeper.proofs.Places.{rank_below, timer_at, rank_at, place_back, place_below, same_rank, expiry_at}
use Rattle.keeper.proofs.Search.{below_bound, due_below}

-- WHAT THE SEARCH FINDS
pub none_due : (d : List ℕ) (n time : ℕ) → NoneBelow d (3 * n) (bound_of time) → NothingDue d n time
none_due d n time f j s h u = omega (arith, f (place_of j s) (place_below n j s h), due_below time (deadline d j s) u.0 u.1)

pub found_due : (d : List ℕ) (n time place : ℕ) → FirstBelow d (3 * n) (bound_of time) place → EarliestDue d n time (place / 3) (timer_at place)
found_due d n time place f =
    let e : deadline d (place / 3) (timer_at place) ≡ get_or d place 0 = ap (λ (k : ℕ). get_or d k 0) (place_back place) in
    let b = below_bound time (get_or d place 0) f.below in
    record {
      below = omega (arith, f.inside);
      due = (omega (arith, e, b.0), omega (arith, e, b.1));
      none_earlier = λ j s h u. omega (arith, e, f.none_less (place_of j s) (place_below n j s h));
      none_before = λ j s h q w. omega (arith, e, q, f.none_before (place_of j s) (before j s w));
    } where
      before : (j : ℕ) (s : Timer) → Before j s (place / 3) (timer_at place) → place_of j s < place
      before j s (inl w) = omega (arith, rank_below s, place_back place, rank_at place)
      before j s (inr w) = omega (arith, w.0, w.1, place_back place, rank_at place)

-- the calls' answers by it
pub names_none : (d : List ℕ) (n time : ℕ) → NoneBelow d (3 * n) (bound_of time) → Names d n time (answered 0 0 0) (set d (3 * n) time)
names_none d n time f = record { named = nothing; rightly = none_due d n time f; answer = refl; list = refl }

pub names_found : (d : List ℕ) (n time place : ℕ) → FirstBelow d (3 * n) (bound_of time) place →
    Names d n time (answered 0 (48 + place % 3) (place / 3)) (set (set d place idle) (3 * n) time)
names_found d n time place f =
    record {
      named = one (place / 3) (timer_at place);
      rightly = found_due d n time place f;
      answer = ap (λ (x : ℕ). answered 0 x (place / 3)) (sym (expiry_at place));
      list = ap (λ (k : ℕ). set (set d k idle) (3 * n) time) (sym (place_back place));
    }

-- the last time stands at the list's end
at_end : (d p : List ℕ) (time : ℕ) → first (due_checks d p time) ≡ passed → length d - 1 ≡ 3 * length p
at_end d p time h = omega (arith, (due_past d p time h).lists.full)

pub none_told : (d p : List ℕ) (time below : ℕ) → passed ≡ first (due_checks d p time) → below ≡ bound_of time → NoneBelow d (3 * length p) below →
    DueCall d p time (answered 0 0 0) (set d (length d - 1) time)
none_told d p time below h e f = rw (at_end d p time (sym h)) (due_named d p time _ _ (sym h) (names_none d (length p) time (rw e at f)))

pub found_told : (d p : List ℕ) (time below place : ℕ) → passed ≡ first (due_checks d p time) → below ≡ bound_of time → FirstBelow d (3 * length p) below place →
    DueCall d p time (answered 0 (48 + place % 3) (place / 3)) (set (set d place idle) (length d - 1) time)
found_told d p time below place h e f = rw (at_end d p time (sym h)) (due_named d p time _ _ (sym h) (names_found d (length p) time place (rw e at f)))

-- WHICH ONE: a link's timer is another's or not
abbrev pub Same : ℕ → Timer → ℕ → Timer → Type 0
Same j s k t = (j ≡ k) × (s ≡ t)

pub same_or_not : (j k : ℕ) (s t : Timer) → Same j s k t ⊎ (j ≡ k → s ≡ t → ⊥)
same_or_not j k s t = by (eqb j k) (eqb (rank s) (rank t)) refl refl where
  by : (a b : Bool) → eqb j k ≡ a → eqb (rank s) (rank t) ≡ b → Same j s k t ⊎ (j ≡ k → s ≡ t → ⊥)
  by true true p q = inl (eqb-true j k p, same_rank s t (eqb-true (rank s) (rank t) q))
  by true false p q = inr (λ u v. eqb-false (rank s) (rank t) q (ap rank v))
  by false b p q = inr (λ u v. eqb-false j k p u)

-- neither before nor the same: behind
pub behind : (j k : ℕ) (s t : Timer) → (Before j s k t → ⊥) → (j ≡ k → s ≡ t → ⊥) → Before k t j s
behind j k s t f g = by (ltb j k) (ltb k j) refl refl where
  ranks : j ≡ k → (b c : Bool) → ltb (rank s) (rank t) ≡ b → ltb (rank t) (rank s) ≡ c → Before k t j s
  ranks e true c p q = absurd (f (inr (e, ltb-true (rank s) (rank t) p)))
  ranks e false true p q = inr (sym e, ltb-true (rank t) (rank s) q)
  ranks e false false p q = absurd (g e (same_rank s t (omega (arith, ltb-false (rank s) (rank t) p, ltb-false (rank t) (rank s) q))))

  by : (a b : Bool) → ltb j k ≡ a → ltb k j ≡ b → Before k t j s
  by true b p q = absurd (f (inl (ltb-true j k p)))
  by false true p q = inl (ltb-true k j q)
  by false false p q = ranks (omega (arith, ltb-false j k p, ltb-false k j q)) (ltb (rank s) (rank t)) (ltb (rank t) (rank s)) refl refl

-- NO TWO ARE THE EARLIEST DUE
in_order : (j k : ℕ) (s t : Timer) → (Before j s k t → ⊥) → (Before k t j s → ⊥) → Same j s k t
in_order j k s t f g = ⊎_elim (λ e. e) (λ z. absurd (g (behind j k s t f z))) (same_or_not j k s t)

pub one_earliest : (d : List ℕ) (n time j k : ℕ) (s t : Timer) → EarliestDue d n time j s → EarliestDue d n time k t → (j ≡ k) × (s ≡ t)
one_earliest d n time j k s t x y =
    let a = x.none_earlier k t y.below y.due in
    let b = y.none_earlier j s x.below x.due in
    let e : deadline d j s ≡ deadline d k t = omega arith in
    in_order j k s t (y.none_before j s x.below e) (x.none_before k t y.below (sym e))

pub one_named : (d : List ℕ) (n time : ℕ) (x y : Named) → Rightly d n time x → Rightly d n time y → x ≡ y
one_named d n time nothing nothing a b = refl
one_named d n time nothing (one k t) a b = absurd (a k t b.below b.due)
one_named d n time (one j s) nothing a b = absurd (b j s a.below a.due)
one_named d n time (one j s) (one k t) a b = let e = one_earliest d n time j k s t a b in λ i. one (e.0 i) (e.1 i)
