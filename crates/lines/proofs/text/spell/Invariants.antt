-- The loop of `lines::text::spell`: what is left of the number stands before the digits written so far.
use Rattle.std.proofs.Common.{◌≡◌, ◌<◌, drop}
use Rattle.lines.specs.Text.{before, decimal}
use Rattle.lines.proofs.text.spell.Given as goal

abbrev pub invariant-loop-i : goal.invariant-loop-i
invariant-loop-i l = (before l.i l.rest (drop l.i l.digits) ≡ decimal l.n) × (l.i < 20)

abbrev pub decreases-loop-i : goal.decreases-loop-i
decreases-loop-i l = l.i
