-- Clause 10 of Q.2140: the status field, the unit of four octets, and what a message that arrived is.
use Rattle.std.specs.Prelude.{ℕ, ◌≡◌, Bool, cond, ◌||◌, List, [], ◌∷◌, eqb, Option, Some, None, is_some}
use Rattle.unit.specs.declared.Status.{Status}
use Rattle.unit.specs.declared.Status.TheVariants.{OOS, PO, INS, NM, EM, ANS, MI, PE, PNS}
use Rattle.unit.specs.declared.Arrived.{Arrived}
use Rattle.unit.specs.declared.Arrived.TheVariants.{Other, Short, Long}

-- The Status field is coded as follows:
abbrev pub code : Status → ℕ
code OOS = 0b00000001  -- Out of Service
code PO = 0b00000010  -- Processor Outage
code INS = 0b00000011  -- In Service
code NM = 0b00000100  -- Normal
code EM = 0b00000101  -- Emergency
code ANS = 0b00000111  -- Alignment Not Successful
code MI = 0b00001000  -- Management Initiated
code PE = 0b00001001  -- Protocol Error
code PNS = 0b00001010  -- Proving Not Successful

abbrev pub statuses : List Status
statuses = OOS ∷ PO ∷ INS ∷ NM ∷ EM ∷ ANS ∷ MI ∷ PE ∷ PNS ∷ []

-- Of some statuses the one that a field codes.
abbrev pub coded : ℕ → List Status → Option Status
coded field [] = None
coded field (s ∷ others) = cond (eqb field (code s)) (Some s) (coded field others)

unfoldable pub decoded : ℕ → Option Status
decoded field = coded field statuses

-- A field names one of the nine, or is none, 0.
abbrev pub is_named : Option Status → Bool
is_named = is_some

abbrev pub is_status : ℕ → Bool
is_status field = is_named (decoded field)

abbrev pub none_or_status : ℕ → Bool
none_or_status field = eqb field 0 || is_status field

-- Figure 5: three reserved octets, then the status. The reserved octets are written 0 (document 01).
unfoldable pub unit_of : Status → List ℕ
unit_of s = 0 ∷ 0 ∷ 0 ∷ code s ∷ []

-- Table 6 tells units apart by their PDU type: NM, INS, or neither.
unfoldable pub kind : ℕ → Arrived
kind status = cond (eqb status (code NM)) Arrived.NM (cond (eqb status (code INS)) Arrived.INS (Other status))

-- A message of four octets is a unit, and a longer one is the user's. The reserved octets are ignored.
unfoldable pub arrived : List ℕ → Arrived
arrived [] = Short
arrived (a ∷ []) = Short
arrived (a ∷ b ∷ []) = Short
arrived (a ∷ b ∷ c ∷ []) = Short
arrived (a ∷ b ∷ c ∷ status ∷ []) = kind status
arrived (a ∷ b ∷ c ∷ d ∷ e ∷ rest) = Long

-- The status of what arrived.
abbrev pub status_of : Arrived → Option Status
status_of Arrived.NM = Some NM
status_of Arrived.INS = Some INS
status_of (Other status) = decoded status
status_of Short = None
status_of Long = None

-- Reading what was written gives the same status, for every status.
abbrev pub RoundTrip : Type 0
RoundTrip = (s : Status) → status_of (arrived (unit_of s)) ≡ Some s
