-- The loop of `keeper::sscf_deadlines_fresh`: none of the timers that were looked at runs.
use Rattle.std.proofs.Common.{◌≡◌, replicate, take}
use Rattle.keeper.specs.Deadlines.{idle}
use Rattle.keeper.proofs.sscf_deadlines_fresh.Given as goal

abbrev pub invariant-loop-deadline : goal.invariant-loop-deadline
invariant-loop-deadline l = take l.deadline-index l.deadline-items ≡ replicate l.deadline-index idle
