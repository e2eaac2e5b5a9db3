-- A first record has its head, and ends within the octets. Assumes nothing.
use mathlib.Core.Path.{◌≡◌, refl}
use mathlib.Core.Bool.{Bool, true, false, cond}
use mathlib.Core.List.{List}
use Prim.Native.Nat.{ℕ, ◌+◌, ◌≤◌}
use native.Mathlib.Omega.{arith}
use lib.Dec.{ltb}
use lib.ListN.{length}
use borrow.Author.Tests.{ltb-false}
use Rattle.std.specs.Prelude.{Option, None, Some}
use Rattle.event.specs.Frame.{length_at}
use Rattle.lines.specs.Lines.{first_record}

by_tests : (a b : Bool) (k n t : ℕ) → (b ≡ false → k ≤ t) → ◌≡◌ {A = Option ℕ} (cond a None (cond b None (Some k))) (Some n) → (k ≡ n) × (n ≤ t)
by_tests true b k n t h e = absurd cc
by_tests false true k n t h e = absurd cc
by_tests false false k n t h e = let q : k ≡ n = cc in (q, omega (arith, h refl))

pub first_fits : (o : List ℕ) (n : ℕ) → first_record o ≡ Some n → (12 ≤ n) × (n ≤ length o)
first_fits o n e =
    let p = by_tests (ltb (length o) 12) (ltb (length o) (12 + length_at o)) (12 + length_at o) n (length o) (λ f. ltb-false (length o) (12 + length_at o) f) e in
    (omega arith, p.1)
