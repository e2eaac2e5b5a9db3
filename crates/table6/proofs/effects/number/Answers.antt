-- `table6::effects::number` meets its contract: a code that is none of the arms is past the list of numbers. Assumes nothing.
use Rattle.std.proofs.Common.{◌≤◌, arith}
use Rattle.table6.specs.Stored.{numbers, number_at}
use Rattle.table6.proofs.Lists.{past}
use Rattle.table6.proofs.effects.number.Goals as goal

pub returns-in_default : goal.returns-in_default
unfolding number_at
returns-in_default c = let h : 64 ≤ c.args.code = omega arith in past numbers c.args.code 0 h
