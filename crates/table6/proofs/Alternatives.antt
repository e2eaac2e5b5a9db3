-- Of two alternatives that follow each other, or three, a condition gives the code as it gives the distance from the first. Assumes nothing.
use mathlib.Core.Path.{◌≡◌, refl, ap}
use mathlib.Core.Bool.{Bool, true, false, cond, not, ◌&&◌}
use Prim.Native.Nat.{ℕ, ◌+◌, ◌≤◌}
use native.Mathlib.Nat.{add-zero}
use lib.Dec.{lit≤}
use Rattle.table6.specs.declared.Facts.{Facts}
use Rattle.table6.specs.declared.effects.Alternative.{Alternative}
use Rattle.table6.specs.Cell.{LPO=0&INS=0, LPO=0&INS=1, holds}

abbrev pub alternative : ℕ → Bool → Alternative
alternative c up = (c, up)

pub near : (b : Bool) → cond b 0 1 ≤ 1
near true = lit≤ tt
near false = lit≤ tt

pub nearest : (b d : Bool) → cond b 0 (cond d 1 2) ≤ 2
nearest true d = lit≤ tt
nearest false true = lit≤ tt
nearest false false = lit≤ tt

-- the first if it holds
pub first_if : (b : Bool) (c : ℕ) (u v : Bool) → alternative (c + cond b 0 1) (cond b u v) ≡ cond b (alternative c u) (alternative (c + 1) v)
first_if true c u v = ap (λ (k : ℕ). alternative k u) (add-zero c)
first_if false c u v = refl

-- the first if it does not
pub first_unless : (b : Bool) (c : ℕ) (u : Bool) → alternative (c + cond b 0 1) u ≡ cond (not b) (alternative (c + 1) u) (alternative c u)
first_unless true c u = ap (λ (k : ℕ). alternative k u) (add-zero c)
first_unless false c u = refl

-- the same answer of both
pub alike_up : (b u : Bool) → u ≡ cond b u u
alike_up true u = refl
alike_up false u = refl

pub own_answer : (b : Bool) → b ≡ cond b true false
own_answer true = refl
own_answer false = refl

by_two : (lpo ins : Bool) (c : ℕ) → alternative (c + cond lpo 0 (cond ins 1 2)) false
    ≡ cond (not lpo && not ins) (alternative (c + 2) false) (cond (not lpo && ins) (alternative (c + 1) false) (alternative c false))
by_two true true c = ap (λ (k : ℕ). alternative k false) (add-zero c)
by_two true false c = ap (λ (k : ℕ). alternative k false) (add-zero c)
by_two false true c = refl
by_two false false c = refl

pub at_the_end : (f : Facts) (c : ℕ) → alternative (c + cond f.lpo 0 (cond f.ins 1 2)) false
    ≡ cond (holds LPO=0&INS=0 f) (alternative (c + 2) false) (cond (holds LPO=0&INS=1 f) (alternative (c + 1) false) (alternative c false))
at_the_end f c = by_two f.lpo f.ins c
