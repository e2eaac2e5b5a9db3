-- No second answer fits, of each function that other crates can call. Assumes nothing.
use Prim.Native.Nat.{ℕ}
use mathlib.Core.List.{List}
use Rattle.unit.specs.OneAnswer.{OneReading, OneAnswer}
use Rattle.unit.proofs.OneAnswer.{equal}
use Rattle.record.proofs.LinkRecord.{one_slot}
use Rattle.record.proofs.mps_at.Kinds as mps-at-kinds
use Rattle.record.proofs.mps_at.Reads as mps-at
use Rattle.record.proofs.ups_at.Kinds as ups-at-kinds
use Rattle.record.proofs.ups_at.Reads as ups-at
use Rattle.record.proofs.pack.Kinds as pack-kinds
use Rattle.record.proofs.pack.Reads as pack
use Rattle.record.proofs.read_link.Kinds as read-link-kinds
use Rattle.record.proofs.read_link.Reads as read-link
use Rattle.record.proofs.rewrite.Kinds as rewrite-kinds
use Rattle.record.proofs.rewrite.Reads as rewrite

pub mps_at_one : OneAnswer mps-at-kinds.ps mps-at-kinds.r mps-at.Post
mps_at_one κs arguments x y e f = equal

pub ups_at_one : OneAnswer ups-at-kinds.ps ups-at-kinds.r ups-at.Post
ups_at_one κs arguments x y e f = equal

pub pack_one : OneAnswer pack-kinds.ps pack-kinds.r pack.Post
pack_one κs arguments x y e f = equal

pub read_link_one : OneAnswer read-link-kinds.ps read-link-kinds.r read-link.Post
read_link_one κs arguments x y e f p q = one_slot x y (equal p q)

-- of what was lent, its octets at exit
pub rewrite_one : OneReading rewrite-kinds.ps rewrite-kinds.r (List ℕ) (λ κs arguments x e. e.0.now) rewrite.Post
rewrite_one κs arguments x y e f = equal
