-- The signals of Table 6 as records, with document 01's codes.
use Rattle.std.specs.Prelude.{ℕ, cond}
use Rattle.unit.specs.declared.Mps.{Mps}
use Rattle.unit.specs.declared.Ups.{Ups}
use Rattle.unit.specs.declared.Status.{Status}
use Rattle.unit.specs.Unit as unit
use Rattle.unit.specs.Proving.{table8}
use Rattle.table6.specs.Words.{Abbreviation, NM, INS, SSCOP-UU, is, field, first, second, third}
use Rattle.table6.specs.Cell.{Told}
use Rattle.table6.specs.SignalCodes.{code}
use Rattle.link.specs.declared.Num.{Num}
use Rattle.link.specs.declared.Carries.{Carries}
use Rattle.link.specs.declared.Signal.{Signal}

abbrev pub num : ℕ → ℕ → ℕ → Num
num a b c = record { a = a; b = b; c = c }

abbrev pub none : Num
none = num 0 0 0

abbrev pub signal : ℕ → ℕ → Num → Carries → Signal
signal code param n carries = record { code = code; param = param; num = n; carries = carries }

abbrev pub bare : ℕ → Signal
bare code = signal code 0 none Carries.Nothing

-- the message unit of a data request: a unit, or the event's own message
abbrev pub mu : Abbreviation → Carries
mu a = cond (is a NM) (Carries.Unit Status.NM) (cond (is a INS) (Carries.Unit Status.INS) Carries.Message)

-- What a signal carries beside its code.
pub record Load : Type 0 where
  pub param : ℕ
  pub num : Num
  pub carries : Carries

abbrev pub nothing : Load
nothing = record { param = 0; num = none; carries = Carries.Nothing }

abbrev pub parameter : ℕ → Load
parameter p = record { param = p; num = none; carries = Carries.Nothing }

abbrev pub number : Num → Load
number n = record { param = 0; num = n; carries = Carries.Nothing }

abbrev pub message : Carries → Load
message m = record { param = 0; num = none; carries = m }

-- It may be the event's parameter (the peer's field, a level) or its number, the proving status that MPS and UPS give by Table 8, or BSNT. BR is No, 0.
abbrev pub load : ℕ → Num → Mps → Ups → Num → Told → Load
load param n mps ups b Told.AAL-RECEIVED-MESSAGE-indication = message Carries.Message
load param n mps ups b Told.AAL-LINK-CONGESTED-indication = parameter param
load param n mps ups b Told.AAL-LINK-CONGESTION-CEASED-indication = nothing
load param n mps ups b Told.AAL-IN-SERVICE-indication = nothing
load param n mps ups b Told.AAL-OUT-OF-SERVICE-indication = nothing
load param n mps ups b Told.AAL-RETRIEVED-MESSAGES-indication = message Carries.Message
load param n mps ups b Told.AAL-RETRIEVAL-COMPLETE-indication = nothing
load param n mps ups b Told.AAL-BSNT-confirm = number b
load param n mps ups b Told.AAL-BSNT-NOT-RETRIEVABLE-confirm = nothing
load param n mps ups b Told.AA-ESTABLISH-request = parameter (unit.code (table8 mps ups))
load param n mps ups b Told.AA-ESTABLISH-response = parameter (unit.code (table8 mps ups))
load param n mps ups b (Told.AA-RELEASE-request uu) = parameter (field uu)
load param n mps ups b (Told.AA-DATA-request x) = message (mu x)
load param n mps ups b Told.AA-RECOVER-response = nothing
load param n mps ups b Told.AA-RETRIEVE-request = number n
load param n mps ups b Told.MAAL-PROVING-indication = nothing
load param n mps ups b Told.MAAL-STOP-PROVING-indication = nothing
load param n mps ups b (Told.MAAL-REPORT-indication x y z) =
    record { param = cond (is z SSCOP-UU) param 0; num = num (first x) (second y) (third z); carries = Carries.Nothing }
load param n mps ups b (Told.Set t) = nothing
load param n mps ups b (Told.Reset t) = nothing

-- What is told, as a record.
abbrev pub signal_of : ℕ → Num → Mps → Ups → Num → Told → Signal
signal_of param n mps ups b a =
    let l = load param n mps ups b a in
    signal (code a) l.param l.num l.carries
