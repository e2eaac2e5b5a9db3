-- `burst::frames` meets its contract: those counted, and those from `at` on.
use mathlib.Core.Path.{◌≡◌}
use Prim.Native.Nat.{◌+◌, ◌-◌, ◌≤◌}
use lib.ListN.{length, drop}
use Rattle.event.specs.EndToEnd.{frames}
use Rattle.sscf.proofs.burst.frames.Given as goal

abbrev pub invariant-loop-size : goal.invariant-loop-size
invariant-loop-size l = (l.at ≤ length l.events) × (l.n + length (frames (drop l.at l.events)) ≡ length (frames l.events)) × (l.n ≤ l.at)

abbrev pub decreases-loop-size : goal.decreases-loop-size
decreases-loop-size l = length l.events - l.at
