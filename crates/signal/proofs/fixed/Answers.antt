-- `signal::fixed` meets its contract: past its table the entry is that of the word that stands for any other.
use Rattle.std.proofs.Common.{◌≤◌, arith}
use Rattle.table6.specs.Stored.{from}
use Rattle.table6.proofs.Lists.{past}
use Rattle.signal.specs.Writing.{fixed_of, fixed_at}
use Rattle.signal.proofs.fixed.Goals as goal

pub returns-in_default : goal.returns-in_default
unfolding fixed_at
returns-in_default c = let h : 36 ≤ c.args.w = omega arith in past (from fixed_of 0 36) c.args.w (fixed_of 12) h
