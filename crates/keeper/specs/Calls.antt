-- The three calls, from the lists, the order and the time to the answer and every number of the list, on all numbers: the checks in the request's order, then what
-- Deadlines.antt and Due.antt say.
use Rattle.std.specs.Prelude.{ℕ, ◌+◌, ◌*◌, ◌/◌, ◌≡◌, Bool, true, false, not, ◌||◌, List, [], ◌∷◌, ◌++◌, eqb, ltb, leb, length, get_or, replicate}
use Rattle.unit.specs.Checks.{Check, ◌if◌, Verdict, passed, refused, first}
use Rattle.keeper.specs.declared.DueAnswer.{DueAnswer}
use Rattle.keeper.specs.Deadlines.{Order, Set, Reset, none, idle, last_time, with_time, order_of, period, followed}
use Rattle.keeper.specs.Due.{Named, Rightly, left, expired, link_of}

-- THE CHECKS

abbrev pub REFUSED-LISTS : ℕ
REFUSED-LISTS = 1

abbrev pub REFUSED-PERIOD : ℕ
REFUSED-PERIOD = 2

abbrev pub REFUSED-ORDER : ℕ
REFUSED-ORDER = 3

abbrev pub REFUSED-TIME : ℕ
REFUSED-TIME = 4

abbrev pub REFUSED-DEADLINE : ℕ
REFUSED-DEADLINE = 5

-- "Lists not of 3n + 1 and n numbers, n from 1 to 256."
abbrev pub bad_lists : ℕ → ℕ → Bool
bad_lists count n = eqb n 0 || ltb 256 n || not (eqb count (3 * n + 1))

-- "1 to 60,000", each of them
abbrev pub bad_periods : List ℕ → Bool
bad_periods [] = false
bad_periods (x ∷ others) = ltb x 1 || ltb 60000 x || bad_periods others

-- a link's own
abbrev pub own_period : List ℕ → ℕ → ℕ
own_period p link = get_or p link 0

abbrev pub no_order : Order → Bool
no_order (Set t) = false
no_order (Reset t) = false
no_order none = true

-- "A deadline that would reach or pass all ones", of a timer that is set.
abbrev pub past_all : Order → ℕ → ℕ → Bool
past_all (Set t) t3 time = leb idle (time + period t3 t)
past_all (Reset t) t3 time = false
past_all none t3 time = false

-- An order and a question both begin with the lists, and a question has no order that could be refused.
abbrev pub list_checks : List ℕ → List ℕ → List (Check ℕ)
list_checks d p = (REFUSED-LISTS if bad_lists (length d) (length p)) ∷ (REFUSED-PERIOD if bad_periods p) ∷ []

abbrev pub due_checks : List ℕ → List ℕ → ℕ → List (Check ℕ)
due_checks d p time = list_checks d p ++ (REFUSED-TIME if ltb time (last_time d (length p))) ∷ []

abbrev pub order_checks : List ℕ → List ℕ → ℕ → ℕ → ℕ → List (Check ℕ)
order_checks d p link c time =
    list_checks d p
    ++ (REFUSED-ORDER if leb (length p) link || no_order (order_of c))
    ∷ (REFUSED-TIME if ltb time (last_time d (length p)))
    ∷ (REFUSED-DEADLINE if past_all (order_of c) (own_period p link) time)
    ∷ []

-- A FRESH LIST: of 3n + 1 numbers, where n can only be a third of them. No timer runs, and the last time is 0.

pub record Kept : Type 0 where
  pub refusal : ℕ
  pub deadlines : List ℕ

abbrev pub keeping : ℕ → List ℕ → Kept
keeping r d = record { refusal = r; deadlines = d }

-- by a verdict, what was there or what has become of it
abbrev pub kept : Verdict ℕ → List ℕ → List ℕ → Kept
kept (refused r) d after = keeping r d
kept passed d after = keeping 0 after

abbrev pub fresh_deadlines : ℕ → List ℕ
fresh_deadlines n = replicate (3 * n) idle ++ 0 ∷ []

abbrev pub fresh_checks : List ℕ → List (Check ℕ)
fresh_checks d = (REFUSED-LISTS if bad_lists (length d) (length d / 3)) ∷ []

unfoldable pub fresh_call : List ℕ → Kept
fresh_call d = kept (first (fresh_checks d)) d (fresh_deadlines (length d / 3))

-- AN ORDER: it is followed, and its time is the last one given.

unfoldable pub order_call : List ℕ → List ℕ → ℕ → ℕ → ℕ → Kept
order_call d p link c time =
    kept (first (order_checks d p link c time)) d (with_time time (followed (order_of c) d link (own_period p link) time) (length p))

-- WHAT IS DUE. The answer is not computed here but told by what it must be.

abbrev pub answered : (refusal expired link : ℕ) → DueAnswer
answered refusal expired link = record { refusal = refusal; expired = expired; link = link }

-- Something is named, and rightly, be it nothing.
pub record Names (d : List ℕ) (n time : ℕ) (a : DueAnswer) (after : List ℕ) : Type 0 where
  pub named : Named
  pub rightly : Rightly d n time named
  pub answer : a ≡ answered 0 (expired named) (link_of named)
  pub list : after ≡ left named d n time

abbrev pub Tells : Verdict ℕ → List ℕ → ℕ → ℕ → DueAnswer → List ℕ → Type 0
Tells (refused r) d n time a after = (a ≡ answered r 0 0) × (after ≡ d)
Tells passed d n time a after = Names d n time a after

-- answer and list together
pub record Outcome : Type 0 where
  pub answer : DueAnswer
  pub deadlines : List ℕ

abbrev pub outcome : DueAnswer → List ℕ → Outcome
outcome a d = record { answer = a; deadlines = d }

unfoldable pub DueCall : List ℕ → List ℕ → ℕ → DueAnswer → List ℕ → Type 0
DueCall d p time a after = Tells (first (due_checks d p time)) d (length p) time a after
