-- Table 7's laws: forced modes come first, how large a code is, for the table's index, and the table as the code has it. Assumes nothing.
use Prim.Native.Nat.{ℕ, ◌+◌, ◌*◌, ◌<◌}
use mathlib.Core.Path.{◌≡◌, refl}
use mathlib.Core.Bool.{cond}
use mathlib.Core.List.{[], ◌∷◌}
use lib.Dec.{eqb}
use lib.ListN.{get_or}
use native.Mathlib.Omega.{arith}
use lib.Dec.{lit<}
use Rattle.unit.specs.declared.Mps.{Mps}
use Rattle.unit.specs.declared.Ups.{Ups}
use Rattle.unit.specs.declared.Ups.TheVariants.{Normal, Emergency}
use Rattle.unit.specs.Proving.{mps_code, ups_code, table7, NoneIfEmergency, AllIfNormal, AtMost}

pub none_if_emergency : NoneIfEmergency
unfolding table7
none_if_emergency ups field n1 = refl

pub all_if_normal : AllIfNormal
unfolding table7
all_if_normal ups field n1 = omega arith

pub at_most : AtMost
unfolding table7
at_most Mps.Emergency ups peer n1 = omega arith
at_most Mps.Normal ups peer n1 = omega arith
at_most Mps.Neutral Normal Normal n1 = omega arith
at_most Mps.Neutral Normal Emergency n1 = omega arith
at_most Mps.Neutral Emergency Normal n1 = omega arith
at_most Mps.Neutral Emergency Emergency n1 = omega arith

pub mps_below : (m : Mps) → mps_code m < 3
mps_below Mps.Neutral = lit< tt
mps_below Mps.Normal = lit< tt
mps_below Mps.Emergency = lit< tt

pub ups_below : (u : Ups) → ups_code u < 2
ups_below Normal = lit< tt
ups_below Emergency = lit< tt

-- Table 7 as the code has it, 1 for n1: each of the twelve entries is what the table says.
abbrev entry : ℕ → ℕ → ℕ → ℕ
entry m u p = get_or (1 ∷ 0 ∷ 0 ∷ 0 ∷ 1 ∷ 1 ∷ 1 ∷ 1 ∷ 0 ∷ 0 ∷ 0 ∷ 0 ∷ []) (m * 4 + u * 2 + p) 0

pub by_entry : (m : Mps) (u p : Ups) (n1 : ℕ) → table7 m u p n1 ≡ cond (eqb (entry (mps_code m) (ups_code u) (ups_code p)) 1) n1 0
unfolding table7
by_entry Mps.Neutral Normal Normal n1 = refl
by_entry Mps.Neutral Normal Emergency n1 = refl
by_entry Mps.Neutral Emergency Normal n1 = refl
by_entry Mps.Neutral Emergency Emergency n1 = refl
by_entry Mps.Normal Normal Normal n1 = refl
by_entry Mps.Normal Normal Emergency n1 = refl
by_entry Mps.Normal Emergency Normal n1 = refl
by_entry Mps.Normal Emergency Emergency n1 = refl
by_entry Mps.Emergency Normal Normal n1 = refl
by_entry Mps.Emergency Normal Emergency n1 = refl
by_entry Mps.Emergency Emergency Normal n1 = refl
by_entry Mps.Emergency Emergency Emergency n1 = refl
