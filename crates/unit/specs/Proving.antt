-- Tables 7 and 8 of Q.2140: how many proving units are sent, and the proving status that the peer is told.
use Rattle.std.specs.Prelude.{ℕ, ◌≤◌, ◌≡◌, cond, eqb}
use Rattle.unit.specs.declared.Status.{Status}
use Rattle.unit.specs.declared.Mps.{Mps}
use Rattle.unit.specs.declared.Ups.{Ups}
use Rattle.unit.specs.declared.Ups.TheVariants.{Normal, Emergency}
use Rattle.unit.specs.Unit.{code}

-- The proving states in a link record, by document 01.
abbrev pub mps_code : Mps → ℕ
mps_code Mps.Neutral = 0
mps_code Mps.Normal = 1
mps_code Mps.Emergency = 2

abbrev pub ups_code : Ups → ℕ
ups_code Normal = 0
ups_code Emergency = 1

-- What a received SSCOP-UU asks for. A field that Table 7 does not name counts as NM (document 01).
unfoldable pub asked : ℕ → Ups
asked field = cond (eqb field (code Status.EM)) Emergency Normal

-- TABLE 7/Q.2140. MPS, UPS, value of SSCOP-UU received, n1; generated value of N1
unfoldable pub table7 : Mps → Ups → Ups → ℕ → ℕ
table7 Mps.Emergency ups peer n1 = 0
table7 Mps.Normal ups peer n1 = n1
table7 Mps.Neutral Normal Normal n1 = n1
table7 Mps.Neutral Normal Emergency n1 = 0
table7 Mps.Neutral Emergency Normal n1 = 0
table7 Mps.Neutral Emergency Emergency n1 = 0

-- TABLE 8/Q.2140. MPS, UPS; value of SSCOP-UU transmitted
unfoldable pub table8 : Mps → Ups → Status
table8 Mps.Emergency ups = Status.EM
table8 Mps.Normal ups = Status.NM
table8 Mps.Neutral Normal = Status.NM
table8 Mps.Neutral Emergency = Status.EM

-- Forced modes come first: under Emergency, whatever the user and the peer ask for, no unit is sent.
abbrev pub NoneIfEmergency : Type 0
NoneIfEmergency = (ups : Ups) (field n1 : ℕ) → table7 Mps.Emergency ups (asked field) n1 ≡ 0

-- Under Normal no fewer than n1 are.
abbrev pub AllIfNormal : Type 0
AllIfNormal = (ups : Ups) (field n1 : ℕ) → n1 ≤ table7 Mps.Normal ups (asked field) n1

-- In no mode are more.
abbrev pub AtMost : Type 0
AtMost = (mps : Mps) (ups peer : Ups) (n1 : ℕ) → table7 mps ups peer n1 ≤ n1
