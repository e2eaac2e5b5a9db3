-- A record written again and again. Assumes nothing.
use mathlib.Core.Path.{◌≡◌, refl, sym, ap, ◌∙◌}
use mathlib.Core.List.{List}
use Prim.Native.Nat.{ℕ, zero, suc, ◌+◌, ◌-◌, ◌*◌, ◌/◌, ◌%◌, ◌≤◌, ◌<◌}
use native.Mathlib.Omega.{arith}
use lib.ListN.{length, length-append}
use Rattle.octet.specs.Octets.{over, put_at}
use Rattle.octet.proofs.Over.{put_front, put_nothing, over_whole}
use Rattle.sscf.specs.Fresh.{copies}

pub length_copies : (n : ℕ) (r : List ℕ) → length r ≡ 20 → length (copies n r) ≡ 20 * n
length_copies zero r h = refl
length_copies (suc n) r h = length-append r (copies n r) ∙ omega (arith, length_copies n r h)

-- from place a to the end of a table
abbrev pub filled : List ℕ → List ℕ → ℕ → List ℕ
filled r d a = put_at d a (copies ((length d - a) / 20) r)

-- from the end on nothing
pub none_yet : (r d : List ℕ) → d ≡ filled r d (length d)
none_yet r d = let e : 0 ≡ (length d - length d) / 20 = omega arith in sym (put_nothing d (length d)) ∙ ap (λ (n : ℕ). put_at d (length d) (copies n r)) e

-- one more, in front of those behind it
pub one_copy_more : (r d : List ℕ) (a : ℕ) → length r ≡ 20 → length d % 20 ≡ 0 → a % 20 ≡ 0 → 0 < a → a ≤ length d → put_at (filled r d a) (a - 20) r ≡ filled r d (a - 20)
one_copy_more r d a h e f z g =
    let n = (length d - a) / 20 in
    let b = a - 20 in
    let k : a ≡ b + length r = omega arith in
    let m : suc n ≡ (length d - b) / 20 = omega arith in
    ap (λ (j : ℕ). put_at (put_at d j (copies n r)) b r) k ∙ put_front d r (copies n r) b (omega arith) ∙ ap (λ (j : ℕ). put_at d b (copies j r)) m

-- and at its beginning there is nothing else in it
pub all_copies : (r d : List ℕ) → length r ≡ 20 → length d % 20 ≡ 0 → filled r d 0 ≡ copies (length d / 20) r
unfolding put_at
all_copies r d h e = let n : length d / 20 ≡ (length d - 0) / 20 = omega arith in
    ap (λ (j : ℕ). over (copies j r) d) (sym n) ∙ over_whole (copies (length d / 20) r) d (omega (arith, length_copies (length d / 20) r h))
