-- `lines::text::Line::hexadecimal` meets its contract: each turn adds an octet's two digits behind the others.
use Rattle.std.proofs.Common.{[], ◌∷◌, ◌/◌, ◌%◌, get_or, arith}
use Rattle.lines.specs.Text.{digit, hexadecimal, Adds}
use Rattle.lines.proofs.Texts.{hexadecimal_next, adds_nothing, ◌then◌}
use Rattle.lines.proofs.text.Line.hexadecimal.Goals as goal

pub loop-x-init : goal.loop-x-init
unfolding hexadecimal
loop-x-init c = adds_nothing _ (omega arith)

pub loop-x-preserved : goal.loop-x-preserved
loop-x-preserved c =
    let m = c.args.octets.now in
    let i = c.loop-x.x-index in
    let x = get_or m i 0 in
    let d : Adds (digit (x / 16) ∷ digit (x % 16) ∷ []) c.loop-x.self c.add.new.self = rw (← c.digit.ensures, ← c.digit-in-loop-x.ensures) c.add.ensures in
    rw (hexadecimal_next m i (omega arith)) (c.loop-x.invariant then d)
