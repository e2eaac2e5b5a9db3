-- `lines::add_slot` meets its contract: a link's state, a space, and C1, to the end of the line.
use Rattle.std.proofs.Common.{append_assoc, arith}
use Rattle.lines.proofs.Texts.{◌then◌}
use Rattle.lines.proofs.add_slot.Goals as goal

pub returns-in-Some : goal.returns-in-Some
returns-in-Some c =
    let q = c.add-in-Some.ensures then c.add-in-Some-2.ensures then c.number.ensures.0 in
    (rw c.in-Some.is (rw (← c.name.ensures.0) (simp append_assoc at q)), omega arith)
