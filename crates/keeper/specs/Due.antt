-- What is due at a time, and what of that is named: the earliest, of two at the same time the lower link's, and of two of one link the lower timer.
use Rattle.std.specs.Prelude.{ℕ, ◌<◌, ◌≤◌, ◌≡◌, ◌⊎◌, List}
use Rattle.table6.specs.Cell.{Timer}
use Rattle.keeper.specs.Deadlines.{rank, deadline, idle, Runs, expiry, with_deadline, with_time}

-- "A timer is due when its deadline is at or before the time": one that runs.
abbrev pub Due : List ℕ → ℕ → ℕ → Timer → Type 0
Due d time link t = Runs d link t × (deadline d link t ≤ time)

-- a lower link, or of one link a lower timer
abbrev pub Before : ℕ → Timer → ℕ → Timer → Type 0
Before j s link t = (j < link) ⊎ ((j ≡ link) × (rank s < rank t))

-- Of n links: it is due, none is due earlier, and none at the same time stands before it.
pub record EarliestDue (d : List ℕ) (n time link : ℕ) (t : Timer) : Type 0 where
  pub below : link < n
  pub due : Due d time link t
  pub none_earlier : (j : ℕ) (s : Timer) → j < n → Due d time j s → deadline d link t ≤ deadline d j s
  pub none_before : (j : ℕ) (s : Timer) → j < n → deadline d j s ≡ deadline d link t → Before j s link t → ⊥

abbrev pub NothingDue : List ℕ → ℕ → ℕ → Type 0
NothingDue d n time = (j : ℕ) (s : Timer) → j < n → Due d time j s → ⊥

-- What is named: nothing, or a link's timer.
pub data Named : Type 0 where
  nothing : Named
  one : ℕ → Timer → Named

abbrev pub Rightly : List ℕ → ℕ → ℕ → Named → Type 0
Rightly d n time nothing = NothingDue d n time
Rightly d n time (one link t) = EarliestDue d n time link t

-- The list that is left: what is named runs no more, and either way the time is the last one given.
abbrev pub left : Named → List ℕ → ℕ → ℕ → List ℕ
left nothing d n time = with_time time d n
left (one link t) d n time = with_time time (with_deadline idle d link t) n

-- How it is answered: the code of the event to hand in and its link, both 0 where nothing is due.
abbrev pub expired : Named → ℕ
expired nothing = 0
expired (one link t) = expiry t

abbrev pub link_of : Named → ℕ
link_of nothing = 0
link_of (one link t) = link
