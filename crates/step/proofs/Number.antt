-- An answer as one number: what stands in it comes back. Assumes nothing.
use mathlib.Core.List.{List}
use mathlib.Core.Path.{◌≡◌, ap, ◌∙◌}
use Prim.Native.Nat.{ℕ, ◌+◌, ◌*◌, ◌/◌, ◌%◌, ◌≤◌, ◌<◌}
use native.Mathlib.Omega.{arith}
use Rattle.event.specs.declared.Fault.{Fault}
use Rattle.step.specs.declared.Refusal.{Refusal}
use Rattle.unit.specs.Checks.{refused, first}
use Rattle.unit.proofs.Checks.{given}
use Rattle.step.specs.Checks.{number, place}
use Rattle.step.specs.Step.{checks, answered}
use Rattle.step.specs.Plan.{told_by}

pub number_below : (x : Refusal) → number x < 256
number_below Refusal.Table = omega arith
number_below Refusal.Frame = omega arith
number_below Refusal.Code = omega arith
number_below (Refusal.Field (Fault.NotCarried q)) = omega arith
number_below (Refusal.Field (Fault.OutOfRange q)) = omega arith
number_below (Refusal.Field (Fault.Short q)) = omega arith
number_below Refusal.Link = omega arith
number_below Refusal.Record = omega arith
number_below Refusal.Timer = omega arith
number_below Refusal.Cell = omega arith
number_below Refusal.Room = omega arith
number_below Refusal.List = omega arith

-- no place that a check can give is past the length
pub place_given : (t e : List ℕ) (room : ℕ) {x : Refusal} → first (checks t e room) ≡ refused x → place x ≤ 10
place_given t e room h =
    given (λ (x : Refusal). place x ≤ 10) (checks t e room)
    (omega arith, (omega arith, (omega arith, (omega arith, (omega arith, (omega arith, (omega arith, (omega arith, (omega arith, (omega arith, (omega arith, (omega arith, (omega arith, (omega arith, tt))))))))))))))
    h

pub refusal_back : (r q : ℕ) → r < 256 → told_by (q * 281474976710656 + r) ≡ answered r 0 0 q
refusal_back r q h =
    let n = q * 281474976710656 + r in
    let a : n % 65536 ≡ r = omega arith in
    let wide : n / 4294967296 ≡ q * 65536 = omega arith in
    let b : n / 4294967296 % 65536 ≡ 0 = ap (λ (k : ℕ). k % 65536) wide ∙ omega arith in
    let middle : n / 65536 ≡ q * 4294967296 = omega arith in
    let c : n / 65536 % 65536 ≡ 0 = ap (λ (k : ℕ). k % 65536) middle ∙ omega arith in
    let d : n / 281474976710656 ≡ q = omega arith in
    (λ i. answered (a i) (b i) (c i) (d i))

pub acceptance_back : (octets signals : ℕ) → octets ≤ 4240 → signals < 256 → told_by (octets * 4294967296 + signals * 65536) ≡ answered 0 octets signals 0
acceptance_back octets signals g h =
    let n = octets * 4294967296 + signals * 65536 in
    let a : n % 65536 ≡ 0 = omega arith in
    let wide : n / 4294967296 ≡ octets = omega arith in
    let b : n / 4294967296 % 65536 ≡ octets = ap (λ (k : ℕ). k % 65536) wide ∙ omega arith in
    let middle : n / 65536 ≡ octets * 65536 + signals = omega arith in
    let c : n / 65536 % 65536 ≡ signals = ap (λ (k : ℕ). k % 65536) middle ∙ omega arith in
    let d : n / 281474976710656 ≡ 0 = omega arith in
    (λ i. answered (a i) (b i) (c i) (d i))
