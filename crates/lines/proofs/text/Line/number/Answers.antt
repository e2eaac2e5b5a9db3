-- `lines::text::Line::number` meets its contract: the digits are added whole, and the octet behind them.
use Rattle.std.proofs.Common.{arith}
use Rattle.lines.specs.Text.{decimal, Adds}
use Rattle.lines.proofs.Texts.{◌then◌}
use Rattle.lines.proofs.text.Line.number.Goals as goal

pub returns : goal.returns
returns c =
    let p : Adds (decimal c.args.n) c.args.self.now c.add.new.self = rw (← c.spell.ensures.0) c.add.ensures in
    (p then c.add-2.ensures, omega arith)
