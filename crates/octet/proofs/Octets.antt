-- How large a bit and an octet are, the two octets of a number, and a list as its octets. Assumes nothing.
use Prim.Native.Nat.{ℕ, zero, suc, ◌+◌, ◌*◌, ◌/◌, ◌%◌, ◌<◌, ◌≤◌}
use mathlib.Core.Path.{◌≡◌, refl, sym, ap, ◌∙◌}
use mathlib.Core.Bool.{Bool, true, false, ◌&&◌}
use mathlib.Core.List.{List, [], ◌∷◌}
use native.Mathlib.Omega.{arith}
use lib.Dec.{eqb}
use lib.ListN.{length}
use borrow.Author.Tests.{eqb-true, eqb-false, eq-eqb, ne_eqb}
use Rattle.octet.specs.Octets.{Octets, at, two, bit}

pub bit_le : (b : Bool) → bit b ≤ 1
bit_le true = omega arith
bit_le false = omega arith

pub octet_at : (r : List ℕ) → Octets r → (i : ℕ) → at r i < 256
octet_at [] o i = omega arith
octet_at (x ∷ r) o zero = o.0
octet_at (x ∷ r) o (suc i) = octet_at r o.1 i

pub high_same : (a b : ℕ) → b < 256 → (a * 256 + b) / 256 ≡ a
high_same a b h = omega arith

pub low_same : (a b : ℕ) → b < 256 → (a * 256 + b) % 256 ≡ b
low_same a b h = omega arith

-- n octets of a list, from octet i on
abbrev pub listing : List ℕ → ℕ → ℕ → List ℕ
listing r i zero = []
listing r i (suc n) = at r i ∷ listing r (suc i) n

shifted : (x : ℕ) (r : List ℕ) (i n : ℕ) → listing (x ∷ r) (suc i) n ≡ listing r i n
shifted x r i zero = refl
shifted x r i (suc n) = ap (λ (s : List ℕ). at r i ∷ s) (shifted x r (suc i) n)

pub listed : (r : List ℕ) → r ≡ listing r 0 (length r)
listed [] = refl
listed (x ∷ r) = ap (λ (s : List ℕ). x ∷ s) (listed r ∙ sym (shifted x r 0 (length r)))

-- two numbers of two octets are equal exactly if their octets are
pub two_same : (a b c d : ℕ) → a < 256 → c < 256 → eqb (two b a) (two d c) ≡ (eqb a c && eqb b d)
two_same a b c d h k = by (eqb a c) (eqb b d) refl refl where
  by : (x y : Bool) → eqb a c ≡ x → eqb b d ≡ y → eqb (two b a) (two d c) ≡ (x && y)
  by true true p q = eq-eqb (two b a) (two d c) (omega (arith, eqb-true a c p, eqb-true b d q))
  by true false p q = ne_eqb _ _ (λ (e : two b a ≡ two d c). eqb-false b d q (omega (arith, eqb-true a c p, e)))
  by false y p q = ne_eqb _ _ (λ (e : two b a ≡ two d c). eqb-false a c p (omega (arith, e)))
