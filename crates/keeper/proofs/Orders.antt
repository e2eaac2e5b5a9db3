-- The six codes that are orders, and what the code's arithmetic makes of each. Assumes nothing.
use Prim.Native.Nat.{ℕ, ◌+◌, ◌*◌, ◌%◌, ◌<◌}
use native.Mathlib.Omega.{arith}
use mathlib.Core.Path.{◌≡◌, refl, sym, subst}
use mathlib.Core.Bool.{Bool, true, false, cond, ◌&&◌, true≢false}
use mathlib.Core.List.{List}
use lib.Dec.{eqb, ltb, leb}
use lib.ListN.{set}
use borrow.Author.Tests.{eqb-true}
use Rattle.table6.specs.Cell.{T1, T2, T3}
use Rattle.keeper.specs.Deadlines.{Set, Reset, none, idle, order_of, followed}
use Rattle.keeper.specs.Calls.{no_order, past_all}
use Rattle.keeper.specs.Searched.{period_set}

-- what holds at the six codes holds of every order
pub each : (P : ℕ → Type 0) → P 48 → P 49 → P 50 → P 56 → P 57 → P 58 → (c : ℕ) → no_order (order_of c) ≡ false → P c
each P s1 s2 s3 r1 r2 r3 c h = by (eqb c 48) (eqb c 49) (eqb c 50) (eqb c 56) (eqb c 57) (eqb c 58) refl refl refl refl refl refl h where
  at : (k : ℕ) → eqb c k ≡ true → P k → P c
  at k e p = subst P (sym (eqb-true c k e)) p

  by : (a b d e f g : Bool) → eqb c 48 ≡ a → eqb c 49 ≡ b → eqb c 50 ≡ d → eqb c 56 ≡ e → eqb c 57 ≡ f → eqb c 58 ≡ g →
      no_order (cond a (Set T1) (cond b (Set T2) (cond d (Set T3) (cond e (Reset T1) (cond f (Reset T2) (cond g (Reset T3) none)))))) ≡ false → P c
  by true b d e f g p q r s t u h = at 48 p s1
  by false true d e f g p q r s t u h = at 49 q s2
  by false false true e f g p q r s t u h = at 50 r s3
  by false false false true f g p q r s t u h = at 56 s r1
  by false false false false true g p q r s t u h = at 57 t r2
  by false false false false false true p q r s t u h = at 58 u r3
  by false false false false false false p q r s t u h = absurd (true≢false h)

pub by_code : (d : List ℕ) (link t3 time c : ℕ) → no_order (order_of c) ≡ false →
    cond (ltb c 56) (set d (3 * link + c % 8) (time + period_set c t3)) (set d (3 * link + c % 8) idle) ≡ followed (order_of c) d link t3 time
by_code d link t3 time =
    each
    (λ (c : ℕ). cond (ltb c 56) (set d (3 * link + c % 8) (time + period_set c t3)) (set d (3 * link + c % 8) idle) ≡ followed (order_of c) d link t3 time)
    refl refl refl refl refl refl

pub past_by_code : (t3 time c : ℕ) → no_order (order_of c) ≡ false → (ltb c 56 && leb idle (time + period_set c t3)) ≡ past_all (order_of c) t3 time
past_by_code t3 time =
    each (λ (c : ℕ). (ltb c 56 && leb idle (time + period_set c t3)) ≡ past_all (order_of c) t3 time) refl refl refl refl refl refl

pub rank_by_code : (c : ℕ) → no_order (order_of c) ≡ false → c % 8 < 3
rank_by_code = each (λ (c : ℕ). c % 8 < 3) (omega arith) (omega arith) (omega arith) (omega arith) (omega arith) (omega arith)
