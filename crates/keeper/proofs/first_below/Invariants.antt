-- The loop of `keeper::first_below`: what was found is that of the places before the link's.
use Rattle.std.proofs.Common.{◌*◌}
use Rattle.keeper.proofs.Search.{SoFar}
use Rattle.keeper.proofs.first_below.Given as goal

abbrev pub invariant-loop-link : goal.invariant-loop-link
invariant-loop-link l = SoFar l.deadlines l.none l.bound (3 * l.link) l.found l.least
