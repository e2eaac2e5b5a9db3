-- What holds at each turn of `trace::print_signals`' loop: what is left of the signals is no longer than they were.
use Rattle.std.proofs.Common.{◌≤◌, length}
use Rattle.step.specs.declared.TheConstants.{ROOM}
use Rattle.trace.proofs.print_signals.Given as goal

abbrev pub invariant-loop : goal.invariant-loop
invariant-loop l = length l.rest ≤ ROOM
