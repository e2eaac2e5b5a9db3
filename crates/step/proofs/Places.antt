-- Where a table has its records. Assumes nothing.
use Prim.Native.Nat.{ℕ, ◌+◌, ◌-◌, ◌*◌, ◌%◌, ◌≤◌, ◌<◌}
use native.Mathlib.Omega.{arith}
use mathlib.Core.Path.{◌≡◌, refl, ap}
use mathlib.Core.Bool.{false, not, ◌||◌}
use mathlib.Core.List.{List, ◌++◌}
use lib.Dec.{eqb, ltb}
use lib.ListN.{length, take, drop, length-take, length-drop}
use borrow.Author.Tests.{eqb-true, not-false}
use Rattle.octet.specs.Octets.{put_at, over}
use Rattle.octet.proofs.Branches.{neither}
use Rattle.step.specs.Step.{bad_table, records, record_at}

-- a record within the table has twenty octets, and its place is within too
pub inside : (t : List ℕ) (k : ℕ) → k < records t → 20 * k + 20 ≤ length t
inside t k h = omega arith

pub record_length : (t : List ℕ) (k : ℕ) → k < records t → length (record_at t k) ≡ 20
record_length t k h = let i = inside t k h in simp (length-take, length-drop) (omega arith)

-- a good table is of whole records
pub whole : (t : List ℕ) → bad_table t ≡ false → length t % 20 ≡ 0
whole t h =
    let a = eqb (length t) 0 in
    let b = eqb (length t % 20) 0 in
    eqb-true (length t % 20) 0 (not-false b (neither a (not b) (neither (a || not b) (ltb 5120 (length t)) h).0).1)

-- the slice of a record
pub slice : (t : List ℕ) (k : ℕ) → take (20 * k + 20 - 20 * k) (drop (20 * k) t) ≡ record_at t k
slice t k = let q : 20 * k + 20 - 20 * k ≡ 20 = omega arith in rw q refl

-- what comes back of such a slice that was lent
pub put_back : (t y : List ℕ) (k : ℕ) → length y ≡ 20 → take (20 * k) t ++ (y ++ drop (20 * k + 20 - 20 * k) (drop (20 * k) t)) ≡ put_at t (20 * k) y
unfolding put_at over
put_back t y k h = let q : 20 * k + 20 - 20 * k ≡ length y = omega (arith, h) in ap (λ (n : ℕ). take (20 * k) t ++ (y ++ drop n (drop (20 * k) t))) q
