-- A list as the values of a function, and a table as a `match` on a number: its arms are a list's elements, its last arm is for all the rest. Assumes nothing.
use mathlib.Core.Path.{◌≡◌, refl, sym, ◌∙◌, ap}
use mathlib.Core.List.{List, [], ◌∷◌}
use Prim.Native.Nat.{ℕ, zero, suc, ◌+◌, ◌-◌, ◌<◌, ◌≤◌}
use native.Mathlib.Omega.{arith}
use native.Mathlib.Nat.{add-zero, add-suc, suc-add, le_of_suc-le-suc, not-suc-le-zero}
use lib.Dec.{lit<}
use lib.ListN.{length, get_or}
use Rattle.table6.specs.declared.State.{State}
use Rattle.table6.specs.Stored.{from, place}

pub get_d_from {ℓ} : {A : Type ℓ} (f : ℕ → A) (n i k : ℕ) (d : A) → k < n → get_or (from f i n) k d ≡ f (i + k)
get_d_from f zero i k d h = absurd (not-suc-le-zero h)
get_d_from f (suc n) i zero d h = ap f (sym (add-zero i))
get_d_from f (suc n) i (suc k) d h = get_d_from f n (suc i) k d (le_of_suc-le-suc h) ∙ ap f (suc-add i k ∙ sym (add-suc i k))

-- two functions that one computed test finds equal at the n numbers from a on, or below n
pub alike_from {ℓ} : {A : Type ℓ} (f g : ℕ → A) (a n : ℕ) (d : A) → from f a n ≡ from g a n → (k : ℕ) → a ≤ k → k < a + n → f k ≡ g k
alike_from f g a n d e k l h =
    let i = k - a in
    let p : a + i ≡ k = omega arith in
    let q : i < n = omega arith in
    ap f (sym p) ∙ sym (get_d_from f n a i d q) ∙ ap (λ l. get_or l i d) e ∙ get_d_from g n a i d q ∙ ap g p

pub alike {ℓ} : {A : Type ℓ} (f g : ℕ → A) (n : ℕ) (d : A) → from f 0 n ≡ from g 0 n → (k : ℕ) → k < n → f k ≡ g k
alike f g n d e k h = alike_from f g 0 n d e k (omega arith) (omega arith)

-- none of the k numbers from a on
abbrev pub MissedFrom : ℕ → ℕ → ℕ → Type 0
MissedFrom a i zero = Unit {0}
MissedFrom a i (suc k) = MissedFrom a i k × (i ≡ a + k → ⊥)

pub missed_from : (a i k : ℕ) → a ≤ i → MissedFrom a i k → a + k ≤ i
missed_from a i zero h m = omega arith
missed_from a i (suc k) h m = let l : a + k ≤ i = missed_from a i k h m.0 in omega (arith, m.1)

pub past {ℓ} : {A : Type ℓ} (xs : List A) (i : ℕ) (d : A) → length xs ≤ i → d ≡ get_or xs i d
past [] i d h = refl
past (x ∷ xs) zero d h = absurd (not-suc-le-zero h)
past (x ∷ xs) (suc i) d h = past xs i d (le_of_suc-le-suc h)

pub beyond {ℓ} : {A : Type ℓ} (xs : List A) (n i : ℕ) (d : A) → length xs ≡ n → MissedFrom 0 i n → d ≡ get_or xs i d
beyond xs n i d e m = past xs i d (rw e (omega (arith, missed_from 0 i n (omega arith) m)))

-- a column is one of eight
pub below : (s : State) → place s < 8
below State.S111 = lit< tt
below State.S141 = lit< tt
below State.S212 = lit< tt
below State.S222 = lit< tt
below State.S242 = lit< tt
below State.S2103 = lit< tt
below State.S2104 = lit< tt
below State.S3105 = lit< tt
