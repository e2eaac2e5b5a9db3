-- What a verdict tells of its checks. Assumes nothing.
use Prim.Native.Nat.{ℕ, ◌≤◌}
use native.Mathlib.Omega.{arith}
use mathlib.Core.Path.{◌≡◌, refl, sym, ap, subst}
use mathlib.Core.Bool.{Bool, true, false, cond, not, true≢false}
use mathlib.Core.List.{List, [], ◌∷◌, ◌++◌, map}
use Rattle.unit.specs.Checks.{Check, Verdict, passed, refused, first, by, number_of}

-- no test of a list that is passed holds
abbrev pub Clear : {R : Type 0} → List (Check R) → Type 0
Clear [] = Unit {0}
Clear (c ∷ cs) = (c.holds ≡ false) × Clear cs

abbrev is_passed : {R : Type 0} → Verdict R → Bool
is_passed passed = true
is_passed (refused r) = false

by_test : {R : Type 0} (b : Bool) (r : R) (v : Verdict R) → cond b (refused r) v ≡ passed → (b ≡ false) × (v ≡ passed)
by_test true r v h = absurd (true≢false (ap_passed h)) where
  ap_passed : refused r ≡ passed → true ≡ false
  ap_passed e = λ i. not (is_passed (e i))
by_test false r v h = (refl, h)

pub clear : {R : Type 0} (cs : List (Check R)) → first cs ≡ passed → Clear cs
clear [] h = tt
clear (c ∷ cs) h = let p = by_test c.holds c.refusal (first cs) h in (p.0, clear cs p.1)

pub none : {R : Type 0} (cs : List (Check R)) → Clear cs → first cs ≡ passed
none [] h = refl
none (c ∷ cs) h = rw h.0 (none cs h.1)

-- CHECKS BEFORE OTHERS, their refusals made into those of the whole: theirs go first

abbrev pub onward : {R S : Type 0} → (R → S) → Verdict R → Verdict S → Verdict S
onward f passed v = v
onward f (refused r) v = refused (f r)

by_first : {R S : Type 0} (f : R → S) (b : Bool) (r : R) (v : Verdict R) (w x : Verdict S) → x ≡ onward f v w → cond b (refused (f r)) x ≡ onward f (cond b (refused r) v) w
by_first f true r v w x h = refl
by_first f false r v w x h = h

pub first_by : {R S : Type 0} (f : R → S) (cs : List (Check R)) (ds : List (Check S)) → first (map (by f) cs ++ ds) ≡ onward f (first cs) (first ds)
first_by f [] ds = refl
first_by f (c ∷ cs) ds = by_first f c.holds c.refusal (first cs) (first ds) (first (map (by f) cs ++ ds)) (first_by f cs ds)

-- WHAT HOLDS OF EVERY REFUSAL that a list can give holds of the one that it gives

abbrev pub Every : {R : Type 0} → (R → Type 0) → List (Check R) → Type 0
Every P [] = Unit {0}
Every P (c ∷ cs) = P c.refusal × Every P cs

abbrev Given : {R : Type 0} → (R → Type 0) → Verdict R → Type 0
Given P passed = Unit {0}
Given P (refused r) = P r

this_given : {R : Type 0} (P : R → Type 0) (b : Bool) (r : R) (v : Verdict R) → P r → Given P v → Given P (cond b (refused r) v)
this_given P true r v p q = p
this_given P false r v p q = q

each_given : {R : Type 0} (P : R → Type 0) (cs : List (Check R)) → Every P cs → Given P (first cs)
each_given P [] h = tt
each_given P (c ∷ cs) h = this_given P c.holds c.refusal (first cs) h.0 (each_given P cs h.1)

pub given : {R : Type 0} (P : R → Type 0) (cs : List (Check R)) {r : R} → Every P cs → first cs ≡ refused r → P r
given P cs h e = subst (Given P) e (each_given P cs h)

-- REFUSALS THAT ARE NUMBERS: where 0 is answered none refuses, since no check has that number; and any other number is the refusal's
passes : (v : Verdict ℕ) → Given (λ (k : ℕ). 1 ≤ k) v → number_of v ≡ 0 → v ≡ passed
passes passed g h = refl
passes (refused k) g h = absurd (omega arith)

pub none_refuses : (cs : List (Check ℕ)) → Every (λ (k : ℕ). 1 ≤ k) cs → number_of (first cs) ≡ 0 → first cs ≡ passed
none_refuses cs n h = passes (first cs) (each_given (λ (k : ℕ). 1 ≤ k) cs n) h

pub refusing : (v : Verdict ℕ) (n : ℕ) → n ≡ number_of v → (n ≡ 0 → ⊥) → v ≡ refused n
refusing passed n e z = absurd (z e)
refusing (refused k) n e z = ap refused (sym e)
