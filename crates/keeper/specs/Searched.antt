-- What the code's own functions answer. Nothing here has to be believed: the promises of the three calls tie it to Calls.antt.
use Rattle.std.specs.Prelude.{ℕ, ◌+◌, ◌<◌, ◌≤◌, ◌≡◌, cond, ◌⊎◌, List, Option, Some, None, Result, Ok, Err, eqb, ltb, get_or}
use Rattle.unit.specs.Checks.{Verdict, passed, refused}
use Rattle.table6.specs.SignalCodes.{SET-T1, SET-T2}
use Rattle.keeper.specs.declared.Refusal.{Refusal}
use Rattle.keeper.specs.declared.Refusal.TheVariants.{Lists, Period, Order, Time, Deadline}
use Rattle.keeper.specs.Deadlines.{idle, 5-seconds, 30-seconds}
use Rattle.keeper.specs.Calls.{REFUSED-LISTS, REFUSED-PERIOD, REFUSED-ORDER, REFUSED-TIME, REFUSED-DEADLINE}

-- The paper's number of a refusal, and what the checks come to by the code's own answer.
abbrev pub number : Refusal → ℕ
number Lists = REFUSED-LISTS
number Period = REFUSED-PERIOD
number Order = REFUSED-ORDER
number Time = REFUSED-TIME
number Deadline = REFUSED-DEADLINE

abbrev pub verdict : {T : Type 0} → Result T Refusal → Verdict ℕ
verdict (Ok x) = passed
verdict (Err r) = refused (number r)

-- How long the timer runs that an order sets, by its code.
abbrev pub period_set : ℕ → ℕ → ℕ
period_set c t3 = cond (eqb c SET-T1) 5-seconds (cond (eqb c SET-T2) 30-seconds t3)

-- What is due at a time is below this.
abbrev pub bound_of : ℕ → ℕ
bound_of time = cond (ltb time idle) (time + 1) idle

-- Of three numbers x is the least, and place the first where it stands.
pub record LeastOf (a b c place x : ℕ) : Type 0 where
  pub none_less : (x ≤ a) × (x ≤ b) × (x ≤ c)
  pub there : ((place ≡ 0) × (x ≡ a)) ⊎ (((place ≡ 1) × (x ≡ b) × (b < a)) ⊎ ((place ≡ 2) × (x ≡ c) × (c < a) × (c < b)))

-- Of the first m numbers that at place is below a bound, none is less, and none before it is as small.
pub record FirstBelow (d : List ℕ) (m bound place : ℕ) : Type 0 where
  pub inside : place < m
  pub below : get_or d place 0 < bound
  pub none_less : (j : ℕ) → j < m → get_or d place 0 ≤ get_or d j 0
  pub none_before : (j : ℕ) → j < place → get_or d place 0 < get_or d j 0

abbrev pub NoneBelow : List ℕ → ℕ → ℕ → Type 0
NoneBelow d m bound = (j : ℕ) → j < m → bound ≤ get_or d j 0

-- The place of that one, if there is one.
abbrev pub Sought : List ℕ → ℕ → ℕ → Option ℕ → Type 0
Sought d m bound None = NoneBelow d m bound
Sought d m bound (Some place) = FirstBelow d m bound place
