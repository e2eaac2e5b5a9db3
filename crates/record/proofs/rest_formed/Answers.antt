-- `record::rest_formed` meets its contract where a test has failed: each `&&` goes on to its second test where its first holds, and the definition has the same tests in another order.
use Rattle.std.proofs.Common.{◌≡◌, ◌+◌, ◌*◌, ℕ, Bool, not, ◌&&◌, ◌||◌, List, eqb, leb, sym, ◌∙◌, arith, rules}
use Rattle.std.proofs.lemmas.Bool.Decides.{nat_tests}
use Rattle.unit.specs.Unit.{none_or_status}
use Rattle.octet.specs.Octets.{at, two}
use Rattle.octet.proofs.Branches.{off}
use Rattle.record.specs.Decoded.{bsnt_formed, rest_formed}
use Rattle.record.proofs.rest_formed.Goals as goal

-- the code's tests but the last, in their order
abbrev tests : List ℕ → Bool
tests r =
    eqb (at r 0) 76
    && eqb (at r 1) 78
    && not (eqb (two (at r 15) (at r 14)) 0)
    && leb (at r 3) 3
    && leb (at r 6) 7
    && bsnt_formed r
    && leb (at r 5) 1
    && leb (at r 16) 1
    && none_or_status (at r 17)

-- the tests of n1 and of the two zeros, each of two octets as one number
n1_tested : (a b : ℕ) → not (eqb (two b a) 0) ≡ (not (eqb a 0) || not (eqb b 0))
n1_tested a b = grind (arith, nat_tests)

zeros_tested : (a b : ℕ) → eqb (two b a) 0 ≡ eqb (a + 256 * b) 0
zeros_tested a b = grind (arith, nat_tests)

-- and their order
reordered : (m n a b f k z u g s y : Bool) → m && n && a && b && (f && k && z) && u && g && s && y ≡ m && a && z && b && n && u && s && y && f && k && g
reordered m n a b f k z u g s y = grind (arith, nat_tests)

same : (r : List ℕ) → tests r && eqb (two (at r 19) (at r 18)) 0 ≡ rest_formed r
unfolding rest_formed
same r =
    rw (n1_tested (at r 14) (at r 15), zeros_tested (at r 18) (at r 19))
    (reordered (eqb (at r 0) 76 && eqb (at r 1) 78) (not (eqb (at r 14) 0) || not (eqb (at r 15) 0)) (leb (at r 3) 3) (leb (at r 6) 7) (leb (at r 7) 1)
    (eqb (at r 7) 1 || eqb (at r 8) 0 && eqb (at r 9) 0 && eqb (at r 10) 0) (eqb (at r 11) 0) (leb (at r 5) 1) (leb (at r 16) 1) (none_or_status (at r 17))
    (eqb (at r 18 + 256 * at r 19) 0))

pub returns-else-none_or_status : goal.returns-else-none_or_status
returns-else-none_or_status c =
    let r = c.args.r.now in
    let e1 : c.if-marked.value ≡ (c.marked.result && not (eqb (two (at r 15) (at r 14)) 0)) = search rules in
    let e2 : c.if-wide-ne0.value ≡ (c.if-marked.value && leb (at r 3) 3) = search rules in
    let e3 : c.if-r-le3.value ≡ (c.if-wide-ne0.value && leb (at r 6) 7) = search rules in
    let e4 : c.if-r-le7.value ≡ (c.if-r-le3.value && bsnt_formed r) = search rules in
    let e5 : c.if-bsnt_formed.value ≡ (c.if-r-le7.value && leb (at r 5) 1) = search rules in
    let e6 : c.if-r-le1.value ≡ (c.if-bsnt_formed.value && leb (at r 16) 1) = search rules in
    let e7 : c.if-r-le1-2.value ≡ (c.if-r-le1.value && none_or_status (at r 17)) = search rules in
    let e : c.if-r-le1-2.value ≡ tests r = rw (e7, e6, e5, e4, e3, e2, e1, c.marked.ensures) in
    off (eqb (two (at r 19) (at r 18)) 0) (sym e ∙ c.if-none_or_status.false) e ∙ same r
