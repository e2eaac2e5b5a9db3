-- `table6::cells::row_of` meets its contract: a row that is none of the arms is past the table. Assumes nothing.
use Rattle.std.proofs.Common.{◌≤◌, arith}
use Rattle.table6.specs.Stored.{codes, no_row, row_of}
use Rattle.table6.proofs.Lists.{past}
use Rattle.table6.proofs.cells.row_of.Goals as goal

pub returns-in_default : goal.returns-in_default
unfolding row_of
returns-in_default c = let h : 35 ≤ c.args.row = omega arith in past codes c.args.row no_row h
