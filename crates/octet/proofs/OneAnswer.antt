-- No second answer fits, of each function that other crates can call. Assumes nothing.
use Prim.Native.Nat.{ℕ}
use mathlib.Core.List.{List}
use Rattle.unit.specs.OneAnswer.{OneReading, OneAnswer}
use Rattle.unit.proofs.OneAnswer.{equal}
use Rattle.octet.proofs.wide.Kinds as wide-kinds
use Rattle.octet.proofs.wide.Reads as wide
use Rattle.octet.proofs.marked.Kinds as marked-kinds
use Rattle.octet.proofs.marked.Reads as marked
use Rattle.octet.proofs.put.Kinds as put-kinds
use Rattle.octet.proofs.put.Reads as put
use Rattle.octet.proofs.put_at.Kinds as put-at-kinds
use Rattle.octet.proofs.put_at.Reads as put-at

pub wide_one : OneAnswer wide-kinds.ps wide-kinds.r wide.Post
wide_one κs arguments x y e f = equal

pub marked_one : OneAnswer marked-kinds.ps marked-kinds.r marked.Post
marked_one κs arguments x y e f = equal

-- of what was lent, its octets at exit
pub put_one : OneReading put-kinds.ps put-kinds.r (List ℕ) (λ κs arguments x e. e.0.now) put.Post
put_one κs arguments x y e f = equal

pub put_at_one : OneReading put-at-kinds.ps put-at-kinds.r (List ℕ) (λ κs arguments x e. e.0.now) put-at.Post
put_at_one κs arguments x y e f = equal
