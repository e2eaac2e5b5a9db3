-- Figure 3's octets as the code makes them and takes them apart: octets 2 to 5 are one number, its low octet first. Assumes nothing.
use Prim.Native.Nat.{ℕ, ◌+◌, ◌*◌, ◌/◌, ◌%◌, ◌≤◌, ◌<◌}
use native.Mathlib.Nat.{add-mul-mod_self_left, mod-eq_of_lt}
use native.Mathlib.Omega.{arith}
use mathlib.Core.Path.{◌≡◌, refl, sym, ap, ◌∙◌}
use mathlib.Core.List.{List, [], ◌∷◌}
use lib.ListN.{length}
use Rattle.std.specs.Int.{w32, from_le_bytes}
use Rattle.octet.specs.Octets.{at}
use Rattle.changeover.specs.declared.Changeover.{Changeover}
use Rattle.changeover.specs.Figure3.{SSF, Si, DPC, OPC, SLC, HEADING, FSN, figure3, held, octets_of, message_of}

-- every field has room in the figure
pub record Fits (m : Changeover) : Type 0 where
  pub ssf : m.ssf ≤ 15
  pub si : m.si ≤ 15
  pub dpc : m.dpc ≤ 16383
  pub opc : m.opc ≤ 16383
  pub slc : m.slc ≤ 15
  pub heading : m.heading ≤ 255
  pub number : m.number ≤ 16777215

-- DPC, OPC and SLC as one number
abbrev pub label : Changeover → ℕ
label m = m.dpc + m.opc * 16384 + m.slc * 268435456

cons : {x y : ℕ} {r s : List ℕ} → x ≡ y → r ≡ s → x ∷ r ≡ y ∷ s
cons p q = λ i. p i ∷ q i

pub packed : (m : Changeover) → Fits m →
    (m.ssf * 16 + m.si)
    ∷ (label m % 256)
    ∷ (label m / 256 % 256)
    ∷ (label m / 65536 % 256)
    ∷ (label m / 16777216)
    ∷ m.heading
    ∷ (m.number % 256)
    ∷ (m.number / 256 % 256)
    ∷ (m.number / 65536)
    ∷ []
    ≡ octets_of m
unfolding octets_of
packed m f =
    let f1 = f.ssf in
    let f2 = f.si in
    let f3 = f.dpc in
    let f4 = f.opc in
    let f5 = f.slc in
    let f6 = f.heading in
    let f7 = f.number in
    cons (omega arith) (cons (omega arith) (cons (omega arith) (cons (omega arith) (cons (omega arith) (cons (omega arith) (cons (omega arith) (cons (omega arith) (cons (omega arith) λ i. []))))))))

-- the same by one number from octet 3 on: what is left of DPC, OPC and SLC
abbrev pub codes : Changeover → ℕ
codes m = m.dpc / 256 + m.opc * 64 + m.slc * 1048576

pub packed_codes : (m : Changeover) → Fits m →
    (m.ssf * 16 + m.si)
    ∷ (m.dpc % 256)
    ∷ (codes m % 256)
    ∷ (codes m / 256 % 256)
    ∷ (codes m / 65536 % 256)
    ∷ m.heading
    ∷ (m.number % 256)
    ∷ (m.number / 256 % 256)
    ∷ (m.number / 65536 % 256)
    ∷ []
    ≡ octets_of m
packed_codes m f =
    let f3 = f.dpc in
    let f4 = f.opc in
    let f5 = f.slc in
    let f7 = f.number in
    (cons refl (cons (omega arith) (cons (omega arith) (cons (omega arith) (cons (omega arith) (cons refl (cons refl (cons refl (cons (omega arith) refl))))))))) ∙ packed m f

pub octets_length : (m : Changeover) → length (octets_of m) ≡ 9
unfolding octets_of
octets_length m = refl

-- four octets as a number, the low one first
abbrev pub low_first : ℕ → ℕ → ℕ → ℕ → ℕ
low_first a b c d = from_le_bytes w32 (a ∷ b ∷ c ∷ d ∷ [])

-- what the code takes out of nine octets
abbrev pub taken : List ℕ → Changeover
taken r =
    let label = low_first (at r 1) (at r 2) (at r 3) (at r 4) in
    record {
      ssf = at r 0 / 16;
      si = at r 0 % 16;
      dpc = label % 16384;
      opc = label / 16384 % 16384;
      slc = label / 268435456;
      heading = at r 5;
      number = low_first (at r 6) (at r 7) (at r 8) 0;
    }

-- each field as the figure has it in nine octets
abbrev sum : ℕ → ℕ → ℕ → ℕ → ℕ → ℕ → ℕ → ℕ → ℕ → ℕ
sum a b c d e f g h i = a + (b + (c + (d + (e + (f + (g + (h + (i + 0))))))))

pub held_ssf : (r : List ℕ) → (message_of r).ssf ≡ at r 0 / 16 % 16
unfolding message_of
held_ssf r = let p : held SSF r 0 figure3 ≡ sum (at r 0 / 16 % 16 * 1 + 0) 0 (0 + 0) 0 (0 + 0) (0 + 0) 0 0 0 = refl in p ∙ omega arith

pub held_si : (r : List ℕ) → (message_of r).si ≡ at r 0 % 16
unfolding message_of
held_si r = let p : held Si r 0 figure3 ≡ sum (0 + at r 0 % 16 * 1) 0 (0 + 0) 0 (0 + 0) (0 + 0) 0 0 0 = refl in p ∙ omega arith

pub held_dpc : (r : List ℕ) → (message_of r).dpc ≡ at r 1 % 256 + at r 2 % 64 * 256
unfolding message_of
held_dpc r = let p : held DPC r 0 figure3 ≡ sum (0 + 0) (at r 1 % 256 * 1) (0 + at r 2 % 64 * 256) 0 (0 + 0) (0 + 0) 0 0 0 = refl in p ∙ omega arith

pub held_opc : (r : List ℕ) → (message_of r).opc ≡ at r 2 / 64 % 4 + at r 3 % 256 * 4 + at r 4 % 16 * 1024
unfolding message_of
held_opc r =
    let p : held OPC r 0 figure3 ≡ sum (0 + 0) 0 (at r 2 / 64 % 4 * 1 + 0) (at r 3 % 256 * 4) (0 + at r 4 % 16 * 1024) (0 + 0) 0 0 0 = refl in p ∙ omega arith

pub held_slc : (r : List ℕ) → (message_of r).slc ≡ at r 4 / 16 % 16
unfolding message_of
held_slc r = let p : held SLC r 0 figure3 ≡ sum (0 + 0) 0 (0 + 0) 0 (at r 4 / 16 % 16 * 1 + 0) (0 + 0) 0 0 0 = refl in p ∙ omega arith

pub held_heading : (r : List ℕ) → (message_of r).heading ≡ at r 5 % 256
unfolding message_of
held_heading r =
    let p : held HEADING r 0 figure3 ≡ sum (0 + 0) 0 (0 + 0) 0 (0 + 0) (at r 5 / 16 % 16 * 16 + at r 5 % 16 * 1) 0 0 0 = refl in p ∙ omega arith

pub held_number : (r : List ℕ) → (message_of r).number ≡ at r 6 % 256 + at r 7 % 256 * 256 + at r 8 % 256 * 65536
unfolding message_of
held_number r =
    let p : held FSN r 0 figure3 ≡ sum (0 + 0) 0 (0 + 0) 0 (0 + 0) (0 + 0) (at r 6 % 256 * 1) (at r 7 % 256 * 256) (at r 8 % 256 * 65536) = refl in p ∙ omega arith

-- what stands below a multiple of k
pub low_part : (k x s : ℕ) → x < k → (x + k * s) % k ≡ x
low_part k x s h = add-mul-mod_self_left x k s ∙ mod-eq_of_lt h

-- the fourteen bits in the middle
middle : (a b c d : ℕ) → a < 256 → b < 256 → c < 256 → low_first a b c d / 16384 % 16384 ≡ b / 64 % 4 + c % 256 * 4 + d % 16 * 1024
middle a b c d ha hb hc =
    let x = b / 64 % 4 + c % 256 * 4 + d % 16 * 1024 in
    let e : low_first a b c d / 16384 ≡ x + 16384 * (d / 16) = omega arith in
    ap (λ (n : ℕ). n % 16384) e ∙ low_part 16384 x (d / 16) (omega arith)

pub unpacked : (r : List ℕ) → ((i : ℕ) → at r i < 256) → taken r ≡ message_of r
unpacked r b =
    let b0 = b 0 in
    let b1 = b 1 in
    let b2 = b 2 in
    let b3 = b 3 in
    let b4 = b 4 in
    let b5 = b 5 in
    let b6 = b 6 in
    let b7 = b 7 in
    let b8 = b 8 in
    let ssf : (taken r).ssf ≡ (message_of r).ssf = omega (arith, held_ssf r) in
    let si : (taken r).si ≡ (message_of r).si = sym (held_si r) in
    let dpc : (taken r).dpc ≡ (message_of r).dpc = omega (arith, held_dpc r) in
    let opc : (taken r).opc ≡ (message_of r).opc = middle (at r 1) (at r 2) (at r 3) (at r 4) b1 b2 b3 ∙ sym (held_opc r) in
    let slc : (taken r).slc ≡ (message_of r).slc = omega (arith, held_slc r) in
    let heading : (taken r).heading ≡ (message_of r).heading = omega (arith, held_heading r) in
    let number : (taken r).number ≡ (message_of r).number = omega (arith, held_number r) in
    λ i. record { ssf = ssf i; si = si i; dpc = dpc i; opc = opc i; slc = slc i; heading = heading i; number = number i }
