-- Refusals with the papers' numbers, and the place that each names: that of the first octet of the field at fault, and 0 where no field is.
use Rattle.std.specs.Prelude.{ℕ}
use Rattle.table6.specs.RefusalCodes.{REFUSED-TABLE, REFUSED-FRAME, REFUSED-CODE, REFUSED-LINK, REFUSED-RECORD, REFUSED-TIMER, REFUSED-STATE, REFUSED-OUTPUT, REFUSED-LIST}
use Rattle.event.specs.declared.Unread.{Unread}
use Rattle.event.specs.Fields.{fault_number, fault_place}
use Rattle.step.specs.declared.Refusal.{Refusal}

abbrev pub number : Refusal → ℕ
number Refusal.Table = REFUSED-TABLE
number Refusal.Frame = REFUSED-FRAME
number Refusal.Code = REFUSED-CODE
number (Refusal.Field f) = fault_number f
number Refusal.Link = REFUSED-LINK
number Refusal.Record = REFUSED-RECORD
number Refusal.Timer = REFUSED-TIMER
number Refusal.Cell = REFUSED-STATE
number Refusal.Room = REFUSED-OUTPUT
number Refusal.List = REFUSED-LIST

abbrev pub place : Refusal → ℕ
place Refusal.Table = 0
place Refusal.Frame = 0
place Refusal.Code = 0
place (Refusal.Field f) = fault_place f
place Refusal.Link = 0
place Refusal.Record = 0
place Refusal.Timer = 0
place Refusal.Cell = 0
place Refusal.Room = 0
place Refusal.List = 0

-- The refusal of a step whose event could not be read.
abbrev pub refusal_of : Unread → Refusal
refusal_of Unread.BadFrame = Refusal.Frame
refusal_of Unread.UnknownCode = Refusal.Code
refusal_of (Unread.Misfit f) = Refusal.Field f
