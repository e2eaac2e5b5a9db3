-- No second answer fits the promise of any of the three calls as C meets them: the answer and every number lent are fixed by what is handed in. Assumes nothing.
use Rattle.unit.specs.OneAnswer.{OneReading}
use Rattle.unit.proofs.OneAnswer.{equal}
use Rattle.keeper.specs.Calls.{Kept, keeping, Outcome, outcome}
use Rattle.keeper.proofs.OneAnswer.{one_due}
use Rattle.keeper_c.proofs.sscf_deadlines_fresh.Kinds as fresh-kinds
use Rattle.keeper_c.proofs.sscf_deadlines_fresh.Reads as fresh
use Rattle.keeper_c.proofs.sscf_deadlines_order.Kinds as order-kinds
use Rattle.keeper_c.proofs.sscf_deadlines_order.Reads as order
use Rattle.keeper_c.proofs.sscf_deadlines_due.Kinds as due-kinds
use Rattle.keeper_c.proofs.sscf_deadlines_due.Reads as due

pub fresh_one : OneReading fresh-kinds.ps fresh-kinds.r Kept (λ κs arguments x e. keeping x e.0.now) fresh.Post
fresh_one κs arguments x y e f = equal

pub order_one : OneReading order-kinds.ps order-kinds.r Kept (λ κs arguments x e. keeping x e.0.now) order.Post
order_one κs arguments x y e f = equal

pub due_one : OneReading due-kinds.ps due-kinds.r Outcome (λ κs arguments x e. outcome x e.0.now) due.Post
due_one κs arguments x y e f p q = one_due _ _ _ x y _ _ p q
