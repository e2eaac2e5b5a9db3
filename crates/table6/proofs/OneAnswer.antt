-- No second answer fits, of each function that other crates can call. What `cell` answers is fixed in what it means. Assumes nothing.
use Rattle.unit.specs.OneAnswer.{OneReading, OneAnswer}
use Rattle.unit.proofs.OneAnswer.{equal, one_named}
use Rattle.table6.specs.Summary.{Summed}
use Rattle.table6.specs.Stored.{met_as}
use Rattle.table6.proofs.StateTryFromU8.try_from.Kinds as state-kinds
use Rattle.table6.proofs.StateTryFromU8.try_from.Reads as state
use Rattle.table6.proofs.StatePartialEq.eq.Kinds as state-eq-kinds
use Rattle.table6.proofs.StatePartialEq.eq.Reads as state-eq
use Rattle.table6.proofs.effects.does.Kinds as does-kinds
use Rattle.table6.proofs.effects.does.Reads as does
use Rattle.table6.proofs.cell.Kinds as cell-kinds
use Rattle.table6.proofs.cell.Reads as cell

pub state_named_one : OneAnswer state-kinds.ps state-kinds.r state.Post
state_named_one κs arguments x y e f = one_named x y

pub state_eq_one : OneAnswer state-eq-kinds.ps state-eq-kinds.r state-eq.Post
state_eq_one κs arguments x y e f = equal

pub does_one : OneAnswer does-kinds.ps does-kinds.r does.Post
does_one κs arguments x y e f = equal

pub cell_one : OneReading cell-kinds.ps cell-kinds.r Summed (λ κs arguments x e. met_as arguments.0 arguments.1.0 x) cell.Post
cell_one κs arguments x y e f p q = equal p.0 q.0
