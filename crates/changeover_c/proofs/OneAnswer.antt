-- No second answer fits the promise of either call as C meets it: the answer and every octet lent are fixed by what is handed in. Assumes nothing.
use Rattle.unit.specs.OneAnswer.{OneReading, OneAnswer}
use Rattle.unit.proofs.OneAnswer.{equal}
use Rattle.changeover.specs.Calls.{Written, writing}
use Rattle.changeover_c.proofs.sscf_changeover_write.Kinds as write-kinds
use Rattle.changeover_c.proofs.sscf_changeover_write.Reads as write
use Rattle.changeover_c.proofs.sscf_changeover_read.Kinds as read-kinds
use Rattle.changeover_c.proofs.sscf_changeover_read.Reads as read

pub write_one : OneReading write-kinds.ps write-kinds.r Written (λ κs arguments x e. writing x e.0.now) write.Post
write_one κs arguments x y e f = equal

pub read_one : OneAnswer read-kinds.ps read-kinds.r read.Post
read_one κs arguments x y e f = equal
