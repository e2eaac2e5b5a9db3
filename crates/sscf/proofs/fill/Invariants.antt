-- `fill` meets its contract: from `at` to the end the table is filled.
use mathlib.Core.Path.{◌≡◌}
use Prim.Native.Nat.{◌%◌, ◌≤◌}
use lib.ListN.{length}
use Rattle.sscf.proofs.Copies.{filled}
use Rattle.sscf.proofs.fill.Given as goal

abbrev pub invariant-loop-at : goal.invariant-loop-at
invariant-loop-at l = (l.table ≡ filled l.r l.initial.table l.at) × (l.at % 20 ≡ 0) × (l.at ≤ length l.initial.table) × (length l.table ≡ length l.initial.table)

abbrev pub decreases-loop-at : goal.decreases-loop-at
decreases-loop-at l = l.at
