-- Asked again and again at one time until nothing is due: every due timer is named exactly once, in order of deadline, link and timer.
use Rattle.std.specs.Prelude.{ℕ, zero, suc, ◌<◌, ◌≡◌, cond, ◌&&◌, ◌⊎◌, List, [], ◌∷◌, eqb, length}
use Rattle.unit.specs.Checks.{passed, first}
use Rattle.table6.specs.Cell.{Timer}
use Rattle.keeper.specs.Deadlines.{rank, deadline, expiry}
use Rattle.keeper.specs.Due.{Due, Before}
use Rattle.keeper.specs.Calls.{due_checks, answered, DueCall}

-- A timer of a link.
pub record Of : Type 0 where
  pub link : ℕ
  pub timer : Timer

-- The answers one after the other, from a list of deadlines on: each names a timer, and the last says that nothing is due.
abbrev pub Round : List ℕ → ℕ → List ℕ → List Of → Type 0
Round p time d [] = (after : List ℕ) × DueCall d p time (answered 0 0 0) after
Round p time d (x ∷ others) = (after : List ℕ) × (DueCall d p time (answered 0 (expiry x.timer) x.link) after × Round p time after others)

-- An earlier deadline, or the same and before it.
abbrev pub Sooner : List ℕ → Of → Of → Type 0
Sooner d x y =
    (deadline d x.link x.timer < deadline d y.link y.timer)
    ⊎ ((deadline d x.link x.timer ≡ deadline d y.link y.timer) × Before x.link x.timer y.link y.timer)

abbrev pub All : (Of → Type 0) → List Of → Type 0
All P [] = Unit {0}
All P (x ∷ others) = P x × All P others

abbrev pub InOrder : List ℕ → List Of → Type 0
InOrder d [] = Unit {0}
InOrder d (x ∷ others) = All (Sooner d x) others × InOrder d others

-- How often a link's timer is named.
abbrev pub times : ℕ → Timer → List Of → ℕ
times j s [] = zero
times j s (x ∷ others) = cond (eqb j x.link && eqb (rank s) (rank x.timer)) (suc (times j s others)) (times j s others)

-- By the deadlines as they were before the first answer.
pub record InTurn (d : List ℕ) (n time : ℕ) (names : List Of) : Type 0 where
  pub once : (j : ℕ) (s : Timer) → j < n → Due d time j s → times j s names ≡ 1
  pub only : All (λ (x : Of). (x.link < n) × Due d time x.link x.timer) names
  pub order : InOrder d names

abbrev pub EachOnce : Type 0
EachOnce = (p : List ℕ) (time : ℕ) (d : List ℕ) (names : List Of) → Round p time d names → InTurn d (length p) time names

-- There is such a round from every list on which the question is not refused; since no second answer fits, the asking ends.
abbrev pub RoundEnds : Type 0
RoundEnds = (p : List ℕ) (time : ℕ) (d : List ℕ) → first (due_checks d p time) ≡ passed → (names : List Of) × Round p time d names
