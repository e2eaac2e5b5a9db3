-- `burst::run` meets its contract: some calls are made, and those of the frames from `at` on are left.
use Prim.Native.Nat.{◌-◌}
use lib.ListN.{length}
use Rattle.sscf.proofs.Singles.{Reached}
use Rattle.sscf.proofs.burst.run.Given as goal

abbrev pub invariant-loop-out : goal.invariant-loop-out
invariant-loop-out l = Reached l.initial.table l.events l.initial.out l.initial.list l.table l.out l.list l.taken l.at l.put l.count

abbrev pub decreases-loop-out : goal.decreases-loop-out
decreases-loop-out l = length l.events - l.at
