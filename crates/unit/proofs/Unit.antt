-- Clause 10's round trip, and what arrived by a message's length. Assumes nothing.
use Rattle.std.proofs.Common.{◌≡◌, ℕ, cond, List, [], ◌∷◌, length, get_or, refl, arith}
use borrow.Author.Tests.{lt-ltb, le-ltb, eq-eqb, ne_eqb}
use lib.Dec.{ltb}
use Rattle.unit.specs.declared.Arrived.{Arrived}
use Rattle.unit.specs.declared.Status.TheVariants.{OOS, PO, INS, NM, EM, ANS, MI, PE, PNS}
use Rattle.unit.specs.Unit.{code, decoded, unit_of, kind, arrived, RoundTrip}

pub round_trip : RoundTrip
unfolding decoded unit_of kind arrived
round_trip OOS = refl
round_trip PO = refl
round_trip INS = refl
round_trip NM = refl
round_trip EM = refl
round_trip ANS = refl
round_trip MI = refl
round_trip PE = refl
round_trip PNS = refl

-- the definition goes by the message's octets, the code by its length
pub by_length : (m : List ℕ) →
    arrived m ≡ cond (ltb (length m) 4) Arrived.Short (cond (ltb 4 (length m)) Arrived.Long (kind (get_or m 3 0)))
unfolding arrived
by_length [] = refl
by_length (a ∷ []) = refl
by_length (a ∷ b ∷ []) = refl
by_length (a ∷ b ∷ c ∷ []) = refl
by_length (a ∷ b ∷ c ∷ d ∷ []) = refl
by_length (a ∷ b ∷ c ∷ d ∷ e ∷ m) =
    let n : ℕ = length (a ∷ b ∷ c ∷ d ∷ e ∷ m) in
    rw (le-ltb n 4 (omega arith), lt-ltb 4 n (omega arith))

-- what a status makes of a unit: the proving unit, and the INS unit
pub is_nm_lem : (s : ℕ) → s ≡ code NM → Arrived.NM ≡ kind s
unfolding kind
is_nm_lem s e = rw (eq-eqb s (code NM) e) refl

pub is_ins_lem : (s : ℕ) → (s ≡ code NM → ⊥) → s ≡ code INS → Arrived.INS ≡ kind s
unfolding kind
is_ins_lem s n e = rw (ne_eqb s (code NM) n, eq-eqb s (code INS) e) refl
