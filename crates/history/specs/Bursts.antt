-- That a burst is read as its single calls, told of the calls themselves: its table is the one that it left, and all that is said of sequences of steps is said of it.
use Rattle.std.specs.Prelude.{ℕ, ◌≡◌, List, [], ◌∷◌, length, take}
use Rattle.event.specs.EndToEnd.{frames}
use Rattle.sscf.specs.Burst.{burst_call}
use Rattle.history.specs.Calls.{Call, step, burst, World, next, run}

-- A step for each event, with outputs in turn.
abbrev pub steps : List (List ℕ) → List (List ℕ) → List Call
steps [] outputs = []
steps (e ∷ events) [] = []
steps (e ∷ events) (o ∷ outputs) = step e o ∷ steps events outputs

-- Steps with some outputs, one for each event that the burst takes, bring the table and its history to where the burst brings them; and that table is the burst's own.
pub record Singly (w : World) (es o l : List ℕ) : Type 0 where
  pub outputs : List (List ℕ)
  pub many : length outputs ≡ (burst_call w.table es o l).answer.taken
  pub same : next w (burst es o l) ≡ run w (steps (take (burst_call w.table es o l).answer.taken (frames es)) outputs)
  pub table : (next w (burst es o l)).table ≡ (burst_call w.table es o l).table

abbrev pub AsSingleCalls : Type 0
AsSingleCalls = (w : World) (es o l : List ℕ) → Singly w es o l
