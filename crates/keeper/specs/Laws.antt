-- What holds of the three calls, said plainly. All of it follows from Calls.antt.
use Rattle.std.specs.Prelude.{ℕ, ◌+◌, ◌/◌, ◌≤◌, ◌<◌, ◌≡◌, ◌↔◌, List, length}
use Rattle.table6.specs.Cell.{Timer}
use Rattle.keeper.specs.declared.DueAnswer.{DueAnswer}
use Rattle.keeper.specs.Deadlines.{Runs, Set, Reset, idle, deadline, last_time, order_of, period, expiry}
use Rattle.keeper.specs.Due.{Due, NothingDue}
use Rattle.keeper.specs.Calls.{own_period, fresh_call, order_call, answered, DueCall}

-- A REFUSAL CHANGES NOTHING.
abbrev pub FreshRefused : Type 0
FreshRefused = (d : List ℕ) → 1 ≤ (fresh_call d).refusal → (fresh_call d).deadlines ≡ d

abbrev pub OrderRefused : Type 0
OrderRefused = (d p : List ℕ) (link c time : ℕ) → 1 ≤ (order_call d p link c time).refusal → (order_call d p link c time).deadlines ≡ d

abbrev pub DueRefused : Type 0
DueRefused = (d p : List ℕ) (time : ℕ) (a : DueAnswer) (after : List ℕ) → DueCall d p time a after → 1 ≤ a.refusal → (a ≡ answered a.refusal 0 0) × (after ≡ d)

-- A FRESH LIST has no timer that runs, and a last time of 0.
abbrev pub NoneRuns : Type 0
NoneRuns =
    (d : List ℕ) → (fresh_call d).refusal ≡ 0 → let n = length d / 3 in
    ((link : ℕ) (t : Timer) → link < n → deadline (fresh_call d).deadlines link t ≡ idle) × (last_time (fresh_call d).deadlines n ≡ 0)

-- ONE DEADLINE AND THE LAST TIME change: of n links, timer t of one has another deadline x, and no other timer of any has.
pub record Changed (d after : List ℕ) (n link : ℕ) (t : Timer) (x time : ℕ) : Type 0 where
  pub itself : deadline after link t ≡ x
  pub others : (j : ℕ) (s : Timer) → j < n → (j ≡ link → s ≡ t → ⊥) → deadline after j s ≡ deadline d j s
  pub last : last_time after n ≡ time
  pub long : length after ≡ length d

-- An order changes its own timer's, to the period after the time or to not running.
abbrev pub SetChangesOne : Type 0
SetChangesOne =
    (d p : List ℕ) (link c time : ℕ) (t : Timer) → order_of c ≡ Set t → (order_call d p link c time).refusal ≡ 0 →
    Changed d (order_call d p link c time).deadlines (length p) link t (time + period (own_period p link) t) time

-- A timer that was set runs, and is due later than the time of its order.
abbrev pub SetRuns : Type 0
SetRuns =
    (d p : List ℕ) (link c time : ℕ) (t : Timer) → order_of c ≡ Set t → (order_call d p link c time).refusal ≡ 0 → let after = (order_call d p link c time).deadlines in
    Runs after link t × (time < deadline after link t)

abbrev pub ResetChangesOne : Type 0
ResetChangesOne =
    (d p : List ℕ) (link c time : ℕ) (t : Timer) → order_of c ≡ Reset t → (order_call d p link c time).refusal ≡ 0 →
    Changed d (order_call d p link c time).deadlines (length p) link t idle time

-- What is named was due and runs no more, and nothing else has changed.
pub record WasDue (d after : List ℕ) (n time : ℕ) (a : DueAnswer) : Type 0 where
  pub timer : Timer
  pub code : a.expired ≡ expiry timer
  pub below : a.link < n
  pub due : Due d time a.link timer
  pub changed : Changed d after n a.link timer idle time

abbrev pub NamedWasDue : Type 0
NamedWasDue =
    (d p : List ℕ) (time : ℕ) (a : DueAnswer) (after : List ℕ) → DueCall d p time a after → 1 ≤ a.expired → WasDue d after (length p) time a

-- "NOTHING DUE" EXACTLY IF NONE IS; then the last time alone has changed.
pub record OnlyTime (d after : List ℕ) (n time : ℕ) : Type 0 where
  pub others : (j : ℕ) (s : Timer) → j < n → deadline after j s ≡ deadline d j s
  pub last : last_time after n ≡ time
  pub long : length after ≡ length d

abbrev pub NothingDueExactly : Type 0
NothingDueExactly =
    (d p : List ℕ) (time : ℕ) (a : DueAnswer) (after : List ℕ) → DueCall d p time a after → a.refusal ≡ 0 →
    ((a.expired ≡ 0) ↔ NothingDue d (length p) time) × (a.expired ≡ 0 → OnlyTime d after (length p) time)

-- THE LAST TIME NEVER FALLS.
abbrev pub OrderTimeKept : Type 0
OrderTimeKept = (d p : List ℕ) (link c time : ℕ) → last_time d (length p) ≤ last_time (order_call d p link c time).deadlines (length p)

abbrev pub DueTimeKept : Type 0
DueTimeKept = (d p : List ℕ) (time : ℕ) (a : DueAnswer) (after : List ℕ) → DueCall d p time a after → last_time d (length p) ≤ last_time after (length p)
