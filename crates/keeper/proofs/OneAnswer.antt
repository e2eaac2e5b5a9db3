-- No second answer fits the promise of any of the three calls: the answer and every number lent are fixed by what is handed in. Assumes nothing.
use Prim.Native.Nat.{ℕ}
use mathlib.Core.Path.{◌≡◌, sym, ap, ◌∙◌}
use mathlib.Core.List.{List}
use lib.ListN.{length}
use Rattle.unit.specs.Checks.{Verdict, passed, refused, first}
use Rattle.unit.specs.OneAnswer.{OneReading}
use Rattle.unit.proofs.OneAnswer.{equal}
use Rattle.keeper.specs.declared.DueAnswer.{DueAnswer}
use Rattle.keeper.specs.Due.{Named, left, expired, link_of}
use Rattle.keeper.specs.Calls.{due_checks, Kept, keeping, Outcome, outcome, answered, Names, Tells, DueCall}
use Rattle.keeper.proofs.Due.{one_named}
use Rattle.keeper.proofs.sscf_deadlines_fresh.Kinds as fresh-kinds
use Rattle.keeper.proofs.sscf_deadlines_fresh.Reads as fresh
use Rattle.keeper.proofs.sscf_deadlines_order.Kinds as order-kinds
use Rattle.keeper.proofs.sscf_deadlines_order.Reads as order
use Rattle.keeper.proofs.sscf_deadlines_due.Kinds as due-kinds
use Rattle.keeper.proofs.sscf_deadlines_due.Reads as due

pub fresh_one : OneReading fresh-kinds.ps fresh-kinds.r Kept (λ κs arguments x e. keeping x e.0.now) fresh.Post
fresh_one κs arguments x y e f = equal

pub order_one : OneReading order-kinds.ps order-kinds.r Kept (λ κs arguments x e. keeping x e.0.now) order.Post
order_one κs arguments x y e f = equal

-- what is named decides the rest, and no two are named rightly
same_told : (d : List ℕ) (n time : ℕ) (a b : DueAnswer) (x y : List ℕ) → Names d n time a x → Names d n time b y → outcome a x ≡ outcome b y
same_told d n time a b x y p q =
    let e = one_named d n time p.named q.named p.rightly q.rightly in
    (λ i. outcome (p.answer i) (p.list i))
    ∙ ap (λ (w : Named). outcome (answered 0 (expired w) (link_of w)) (left w d n time)) e
    ∙ sym (λ i. outcome (q.answer i) (q.list i))

pub one_told : (v : Verdict ℕ) (d : List ℕ) (n time : ℕ) (a b : DueAnswer) (x y : List ℕ) → Tells v d n time a x → Tells v d n time b y → outcome a x ≡ outcome b y
one_told passed d n time a b x y p q = same_told d n time a b x y p q
one_told (refused r) d n time a b x y p q = (λ i. outcome (p.0 i) (p.1 i)) ∙ sym (λ i. outcome (q.0 i) (q.1 i))

pub one_due : (d p : List ℕ) (time : ℕ) (a b : DueAnswer) (x y : List ℕ) → DueCall d p time a x → DueCall d p time b y → outcome a x ≡ outcome b y
unfolding DueCall
one_due d p time a b x y u v = one_told (first (due_checks d p time)) d (length p) time a b x y u v

pub due_one : OneReading due-kinds.ps due-kinds.r Outcome (λ κs arguments x e. outcome x e.0.now) due.Post
due_one κs arguments x y e f p q = one_due _ _ _ x y _ _ p q
