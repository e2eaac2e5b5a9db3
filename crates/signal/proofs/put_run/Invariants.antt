-- What holds of the writer of `signal::put_run` at each turn: it has come there from where it began, over as long an output.
use Rattle.std.proofs.Common.{◌≡◌, length}
use Rattle.signal.specs.Writing.{Ran}
use Rattle.signal.proofs.put_run.Given as goal

abbrev pub invariant-loop-left : goal.invariant-loop-left
invariant-loop-left l = Ran l.front l.fn.run l.initial.out (record { at = l.at; rest = l.rest; left = l.left }) l.out × (length l.out ≡ length l.initial.out)

abbrev pub decreases-loop-left : goal.decreases-loop-left
decreases-loop-left l = l.left
