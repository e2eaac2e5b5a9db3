-- Demand 3. What it is stated over: Calls.antt, the calls and what was seen of them; History.antt, a definition for each of its phrases.
use Rattle.std.specs.Prelude.{◌↔◌}
use Rattle.step.specs.Untouched.{OthersUntouched}
use Rattle.history.specs.Calls.{AfterEachCall}
use Rattle.history.specs.History.{history, Stands, Served}

pub record Demand3 : Type 0 where
  -- "After each call, a link stands in service exactly if .."
  pub exactly : AfterEachCall (λ w link. Stands (history w link) ↔ Served w.n1 (history w link))
  -- "An event on one link changes no octet of another."
  pub apart : OthersUntouched
