-- FIGURE 3/Q.2210: the nine octets of a changeover message with extended signals, and what nine octets hold.
use Rattle.std.specs.Prelude.{ℕ, suc, ◌+◌, ◌-◌, ◌*◌, ◌/◌, ◌%◌, ◌^◌, cond, List, [], ◌∷◌, eqb}
use Rattle.octet.specs.Octets.{at}
use Rattle.changeover.specs.declared.Changeover.{Changeover}

-- The fields: sub-service field, service indicator, the two point codes, the code of the link, the heading, which is H1 and then H0, and the FSN of the last message
-- accepted.
pub data Field : Type 0 where
  SSF : Field
  Si : Field
  DPC : Field
  OPC : Field
  SLC : Field
  HEADING : Field
  FSN : Field

-- Some bits of a field that stand side by side. By clause 9.6 a field's least significant bit, here bit 0, stands lowest.
pub record Bits : Type 0 where
  pub field : Field
  pub high : ℕ
  pub low : ℕ

infixl 80 ◌⟨◌⋯◌⟩
abbrev pub ◌⟨◌⋯◌⟩ : Field → ℕ → ℕ → Bits
f ⟨ h ⋯ l ⟩ = record { field = f; high = h; low = l }

-- An octet of the figure, from its bit 8 on the left to its bit 1: one field's bits, or two.
pub data Octet : Type 0 where
  whole : Bits → Octet
  ◌│◌ : Bits → Bits → Octet

infixl 75 ◌│◌
abbrev pub H1 : Bits
H1 = HEADING ⟨ 7 ⋯ 4 ⟩

abbrev pub H0 : Bits
H0 = HEADING ⟨ 3 ⋯ 0 ⟩

abbrev pub figure3 : List Octet
figure3 =
    SSF ⟨ 3 ⋯ 0 ⟩ │ Si ⟨ 3 ⋯ 0 ⟩  -- 1
    ∷ whole (DPC ⟨ 7 ⋯ 0 ⟩)  -- 2
    ∷ OPC ⟨ 1 ⋯ 0 ⟩ │ DPC ⟨ 13 ⋯ 8 ⟩  -- 3
    ∷ whole (OPC ⟨ 9 ⋯ 2 ⟩)  -- 4
    ∷ SLC ⟨ 3 ⋯ 0 ⟩ │ OPC ⟨ 13 ⋯ 10 ⟩  -- 5
    ∷ H1 │ H0  -- 6
    ∷ whole (FSN ⟨ 7 ⋯ 0 ⟩)  -- 7
    ∷ whole (FSN ⟨ 15 ⋯ 8 ⟩)  -- 8
    ∷ whole (FSN ⟨ 23 ⋯ 16 ⟩)  -- 9
    ∷ []

abbrev pub width : Bits → ℕ
width b = suc (b.high - b.low)

-- WRITING. A message's field, and each octet of the figure with the fields' bits in it.
abbrev pub value_of : Changeover → Field → ℕ
value_of m SSF = m.ssf
value_of m Si = m.si
value_of m DPC = m.dpc
value_of m OPC = m.opc
value_of m SLC = m.slc
value_of m HEADING = m.heading
value_of m FSN = m.number

abbrev pub bits_of : Changeover → Bits → ℕ
bits_of m b = value_of m b.field / 2 ^ b.low % 2 ^ width b

abbrev pub octet_of : Changeover → Octet → ℕ
octet_of m (whole b) = bits_of m b
octet_of m (a │ b) = bits_of m a * 2 ^ width b + bits_of m b

abbrev pub all_octets : Changeover → List Octet → List ℕ
all_octets m [] = []
all_octets m (o ∷ others) = octet_of m o ∷ all_octets m others

unfoldable pub octets_of : Changeover → List ℕ
octets_of m = all_octets m figure3

-- READING. What an octet x gives to a field, and what all of them give, from octet i on. The fields are told apart by numbers that mean nothing else.
abbrev pub tag : Field → ℕ
tag SSF = 0
tag Si = 1
tag DPC = 2
tag OPC = 3
tag SLC = 4
tag HEADING = 5
tag FSN = 6

abbrev pub given : Field → ℕ → Bits → ℕ
given f x b = cond (eqb (tag f) (tag b.field)) (x % 2 ^ width b * 2 ^ b.low) 0

abbrev pub given_by : Field → ℕ → Octet → ℕ
given_by f x (whole b) = given f x b
given_by f x (a │ b) = given f (x / 2 ^ width b) a + given f x b

abbrev pub held : Field → List ℕ → ℕ → List Octet → ℕ
held f r i [] = 0
held f r i (o ∷ others) = given_by f (at r i) o + held f r (suc i) others

unfoldable pub message_of : List ℕ → Changeover
message_of r =
    record {
      ssf = held SSF r 0 figure3;
      si = held Si r 0 figure3;
      dpc = held DPC r 0 figure3;
      opc = held OPC r 0 figure3;
      slc = held SLC r 0 figure3;
      heading = held HEADING r 0 figure3;
      number = held FSN r 0 figure3;
    }
