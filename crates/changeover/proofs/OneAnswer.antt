-- No second answer fits the promise of either call: the answer and every octet lent are fixed by what is handed in. Nor does one that of a message of zeros.
-- Assumes nothing.
use Rattle.unit.specs.OneAnswer.{OneReading, OneAnswer}
use Rattle.unit.proofs.OneAnswer.{equal}
use Rattle.changeover.specs.Calls.{Written, writing}
use Rattle.changeover.proofs.sscf_changeover_write.Kinds as write-kinds
use Rattle.changeover.proofs.sscf_changeover_write.Reads as write
use Rattle.changeover.proofs.sscf_changeover_read.Kinds as read-kinds
use Rattle.changeover.proofs.sscf_changeover_read.Reads as read
use Rattle.changeover.proofs.ChangeoverDefault.default.Kinds as default-kinds
use Rattle.changeover.proofs.ChangeoverDefault.default.Reads as default

pub write_one : OneReading write-kinds.ps write-kinds.r Written (λ κs arguments x e. writing x e.0.now) write.Post
write_one κs arguments x y e f = equal

pub read_one : OneAnswer read-kinds.ps read-kinds.r read.Post
read_one κs arguments x y e f = equal

-- of the derived default
pub default_one : OneAnswer default-kinds.ps default-kinds.r default.Post
default_one κs arguments x y e f p q = λ i. record {
  ssf = equal p.0 q.0 i;
  si = equal p.1.0 q.1.0 i;
  dpc = equal p.1.1.0 q.1.1.0 i;
  opc = equal p.1.1.1.0 q.1.1.1.0 i;
  slc = equal p.1.1.1.1.0 q.1.1.1.1.0 i;
  heading = equal p.1.1.1.1.1.0 q.1.1.1.1.1.0 i;
  number = equal p.1.1.1.1.1.1 q.1.1.1.1.1.1 i;
}
