-- `lines::link_line` meets its contract: the link's number, then its state and C1.
use Rattle.std.proofs.Common.{append_assoc, arith, rules}
use Rattle.lines.proofs.Texts.{◌then◌, from_front}
use Rattle.lines.proofs.link_line.Goals as goal

pub returns : goal.returns
returns c =
    let q = c.add.ensures then c.number.ensures.0 then c.add_slot.ensures.0 in
    (from_front q (simp (append_assoc, c.read_link.ensures)) c.new-line.ensures.front (search rules), omega arith)
