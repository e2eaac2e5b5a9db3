-- `octet::put` meets its contract: at the end of the loop all of src is written. Assumes nothing.
use Rattle.std.proofs.Common.{◌∙◌, arith}
use Rattle.octet.proofs.Over.{all_copied}
use Rattle.octet.proofs.put.Goals as goal

pub returns : goal.returns
returns c = c.loop-i.invariant.0 ∙ all_copied _ _ c.loop-i.i (omega arith)
