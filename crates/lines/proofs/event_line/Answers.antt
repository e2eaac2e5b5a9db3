-- `lines::event_line` meets its contract: five numbers, each with an octet behind it, one behind the other.
use Rattle.std.proofs.Common.{append_assoc, arith, rules}
use Rattle.lines.proofs.Texts.{◌then◌, from_front}
use Rattle.lines.proofs.event_line.Goals as goal

pub returns : goal.returns
returns c =
    let q = c.add.ensures then c.number.ensures.0 then c.number-2.ensures.0 then c.number-3.ensures.0 then c.number-4.ensures.0 then c.number-5.ensures.0 in
    (from_front q (simp (append_assoc, c.shown_as-link.ensures, c.link.ensures, c.shown_as-code.ensures)) c.new-line.ensures.front (search rules), omega arith)
