-- The link record of 2026-07, document 01's with another mark and four octets behind it: twenty octets, what they hold, and when they are well-formed.
use Rattle.std.specs.Prelude.{ℕ, ◌+◌, ◌*◌, ◌/◌, ◌%◌, ◌≤◌, ◌≡◌, Bool, true, cond, ◌&&◌, ◌||◌, List, [], ◌∷◌, eqb, leb, get_or, length, Option, Some, None}
use Rattle.unit.specs.declared.Mps.{Mps}
use Rattle.unit.specs.declared.Ups.{Ups}
use Rattle.unit.specs.Unit.{none_or_status}
use Rattle.unit.specs.Proving.{mps_code, ups_code}
use Rattle.unit.specs.Answered.{Answered, refused, accepted}
use Rattle.table6.specs.declared.State.{State}
use Rattle.table6.specs.RefusalCodes.{REFUSED-RECORD}
use Rattle.link.specs.declared.Link.{Link}
use Rattle.link.specs.Effect.{NoneIsZero}
use Rattle.octet.specs.Octets.{Octets, at, two, bit}

abbrev pub record_octets : ℕ
record_octets = 20

abbrev pub state_code : State → ℕ
state_code State.S111 = 1
state_code State.S141 = 2
state_code State.S212 = 3
state_code State.S222 = 4
state_code State.S242 = 5
state_code State.S2103 = 6
state_code State.S2104 = 7
state_code State.S3105 = 8

-- The twenty octets of a record.
unfoldable pub octets_of : Link → List ℕ
octets_of l =
    76  -- L
    ∷ 78  -- N
    ∷ state_code l.state
    ∷ (bit l.ins + 2 * bit l.lpo)
    ∷ mps_code l.mps
    ∷ ups_code l.ups
    ∷ (bit l.t1 + 2 * bit l.t2 + 4 * bit l.t3)
    ∷ bit l.bsnt.known
    ∷ l.bsnt.num.a
    ∷ l.bsnt.num.b
    ∷ l.bsnt.num.c
    ∷ 0
    ∷ (l.c1 / 256)
    ∷ (l.c1 % 256)
    ∷ (l.n1 / 256)
    ∷ (l.n1 % 256)
    ∷ bit l.congested
    ∷ l.last
    ∷ 0
    ∷ 0
    ∷ []

abbrev pub state_at : ℕ → State
state_at c = get_or (State.S111 ∷ State.S111 ∷ State.S141 ∷ State.S212 ∷ State.S222 ∷ State.S242 ∷ State.S2103 ∷ State.S2104 ∷ []) c State.S3105

abbrev pub mps_at : ℕ → Mps
mps_at c = get_or (Mps.Neutral ∷ Mps.Normal ∷ []) c Mps.Emergency

abbrev pub ups_at : ℕ → Ups
ups_at c = get_or (Ups.Normal ∷ []) c Ups.Emergency

-- where n1 stands
abbrev pub n1_place : ℕ
n1_place = 14

-- What twenty octets hold.
unfoldable pub link_of : List ℕ → Link
link_of r =
    record {
      state = state_at (at r 2);
      ins = eqb (at r 3 % 2) 1;
      lpo = eqb (at r 3 / 2 % 2) 1;
      mps = mps_at (at r 4);
      ups = ups_at (at r 5);
      t1 = eqb (at r 6 % 2) 1;
      t2 = eqb (at r 6 / 2 % 2) 1;
      t3 = eqb (at r 6 / 4 % 2) 1;
      bsnt = record { known = eqb (at r 7) 1; num = record { a = at r 8; b = at r 9; c = at r 10 } };
      c1 = two (at r 12) (at r 13);
      n1 = two (at r n1_place) (at r (n1_place + 1));
      congested = eqb (at r 16 % 2) 1;
      last = at r 17;
    }

-- "Anything else is ill-formed." "Congested (0 or 1), last field (0 or a status code), two zeros."
unfoldable pub well_formed : List ℕ → Bool
well_formed r =
    eqb (at r 0) 76
    && eqb (at r 1) 78
    && leb 1 (at r 2)
    && leb (at r 2) 8
    && leb (at r 3) 3
    && leb (at r 4) 2
    && leb (at r 5) 1
    && leb (at r 6) 7
    && leb (at r 7) 1
    && (eqb (at r 7) 1 || eqb (at r 8) 0 && eqb (at r 9) 0 && eqb (at r 10) 0)
    && eqb (at r 11) 0
    && leb 1 (two (at r 14) (at r 15))
    && leb (at r 16) 1
    && none_or_status (at r 17)
    && eqb (at r 18) 0
    && eqb (at r 19) 0

-- The reader's answers in document 01's number and values.
abbrev pub found : Option Link → Answered Link
found None = refused REFUSED-RECORD
found (Some l) = accepted l

-- What octets are as a link's record: a link, or refused by check 6.
unfoldable pub slot_of : List ℕ → Answered Link
slot_of r = cond (eqb (length r) record_octets && well_formed r) (accepted (link_of r)) (refused REFUSED-RECORD)

-- ROUND TRIPS. Unpacking what was packed gives the record.
abbrev pub Unpacked : Type 0
Unpacked = (l : Link) → link_of (octets_of l) ≡ l

-- What was packed is well-formed, where n1 is at least 1, a BSNT that isn't known is 0, and the last field is 0 or a status code.
abbrev pub GoodLink : Link → Type 0
GoodLink l = (1 ≤ l.n1) × NoneIsZero l.bsnt × (none_or_status l.last ≡ true)

abbrev pub PackedWell : Type 0
PackedWell = (l : Link) → GoodLink l → well_formed (octets_of l) ≡ true

-- And such is what a well-formed record holds.
abbrev pub UnpackedGood : Type 0
UnpackedGood = (r : List ℕ) → well_formed r ≡ true → GoodLink (link_of r)

-- Packing what was unpacked gives the same twenty octets.
abbrev pub Repacked : Type 0
Repacked = (r : List ℕ) → Octets r → length r ≡ record_octets → well_formed r ≡ true → octets_of (link_of r) ≡ r
