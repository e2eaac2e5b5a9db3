-- No second answer fits, of each function that other crates can call. Assumes nothing.
use Rattle.unit.specs.OneAnswer.{OneReading, OneAnswer}
use Rattle.unit.proofs.OneAnswer.{equal}
use Rattle.step.specs.Plan.{told_by}
use Rattle.step.specs.Step.{Outcome, answering}
use Rattle.step.proofs.bad_table.Kinds as bad-table-kinds
use Rattle.step.proofs.bad_table.Reads as bad-table
use Rattle.step.proofs.step.Kinds as step-kinds
use Rattle.step.proofs.step.Reads as step
use Rattle.step.proofs.Told.refusal.Kinds as refusal-kinds
use Rattle.step.proofs.Told.refusal.Reads as refusal
use Rattle.step.proofs.Told.octets.Kinds as octets-kinds
use Rattle.step.proofs.Told.octets.Reads as octets
use Rattle.step.proofs.Told.signals.Kinds as signals-kinds
use Rattle.step.proofs.Told.signals.Reads as signals
use Rattle.step.proofs.Told.place.Kinds as place-in-kinds
use Rattle.step.proofs.Told.place.Reads as place-in
use Rattle.step.proofs.RefusalFromUnread.from.Kinds as unread-kinds
use Rattle.step.proofs.RefusalFromUnread.from.Reads as unread
use Rattle.step.proofs.AnswerFromRefusal.from.Kinds as refused-kinds
use Rattle.step.proofs.AnswerFromRefusal.from.Reads as refused
use Rattle.step.proofs.AnswerFromTold.from.Kinds as told-kinds
use Rattle.step.proofs.AnswerFromTold.from.Reads as told
use Rattle.step.proofs.Refusal.number.Kinds as number-kinds
use Rattle.step.proofs.Refusal.number.Reads as number
use Rattle.step.proofs.Refusal.place.Kinds as place-kinds
use Rattle.step.proofs.Refusal.place.Reads as place
use Rattle.step.proofs.RefusalPartialEq.eq.Kinds as refusal-eq-kinds
use Rattle.step.proofs.RefusalPartialEq.eq.Reads as refusal-eq

pub bad_table_one : OneAnswer bad-table-kinds.ps bad-table-kinds.r bad-table.Post
bad_table_one κs arguments x y e f = equal

pub number_one : OneAnswer number-kinds.ps number-kinds.r number.Post
number_one κs arguments x y e f = equal

pub place_one : OneAnswer place-kinds.ps place-kinds.r place.Post
place_one κs arguments x y e f = equal

-- of the derived comparison
pub refusal_eq_one : OneAnswer refusal-eq-kinds.ps refusal-eq-kinds.r refusal-eq.Post
refusal_eq_one κs arguments x y e f = equal

-- of the conversions
pub unread_one : OneAnswer unread-kinds.ps unread-kinds.r unread.Post
unread_one κs arguments x y e f = equal

pub refused_one : OneAnswer refused-kinds.ps refused-kinds.r refused.Post
refused_one κs arguments x y e f = equal

pub told_one : OneAnswer told-kinds.ps told-kinds.r told.Post
told_one κs arguments x y e f = equal

-- of the number in which a step hands on its answer, what it tells
pub step_one : OneReading step-kinds.ps step-kinds.r Outcome (λ κs arguments x e. answering (told_by x.number) e.0.now e.1.1.0.now) step.Post
step_one κs arguments x y e f = equal

pub refusal_one : OneAnswer refusal-kinds.ps refusal-kinds.r refusal.Post
refusal_one κs arguments x y e f = equal

pub octets_one : OneAnswer octets-kinds.ps octets-kinds.r octets.Post
octets_one κs arguments x y e f = equal

pub signals_one : OneAnswer signals-kinds.ps signals-kinds.r signals.Post
signals_one κs arguments x y e f = equal

pub place_in_one : OneAnswer place-in-kinds.ps place-in-kinds.r place-in.Post
place_in_one κs arguments x y e f = equal
