-- The loop of `lines::text::Line::hexadecimal`: the octets so far are added, two digits each.
use Rattle.std.proofs.Common.{take}
use Rattle.lines.specs.Text.{hexadecimal, Adds}
use Rattle.lines.proofs.text.Line.hexadecimal.Given as goal

abbrev pub invariant-loop-x : goal.invariant-loop-x
invariant-loop-x l = Adds (hexadecimal (take l.x-index l.octets)) l.initial.self l.self
