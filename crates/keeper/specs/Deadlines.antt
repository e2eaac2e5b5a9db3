-- The list of deadlines: for each link those of T1, T2 and T3, in milliseconds, and behind the last link's the last time given; and what an order does to it.
use Rattle.std.specs.Prelude.{ℕ, ◌+◌, ◌*◌, ◌<◌, cond, List, [], ◌∷◌, eqb, get_or, set}
use Rattle.table6.specs.Cell.{Timer, T1, T2, T3, Told}
use Rattle.table6.specs.SignalCodes.{code}
use Rattle.table6.specs.EventCodes.{T1-expired, T2-expired, T3-expired}

-- WHERE WHAT STANDS

-- All ones, 2^64 - 1: the timer does not run.
abbrev pub idle : ℕ
idle = 18446744073709551615

abbrev pub rank : Timer → ℕ
rank T1 = 0
rank T2 = 1
rank T3 = 2

abbrev pub place_of : ℕ → Timer → ℕ
place_of link t = 3 * link + rank t

-- A link's three deadlines, and whether they run.
abbrev pub deadline : List ℕ → ℕ → Timer → ℕ
deadline d link t = get_or d (place_of link t) 0

abbrev pub Runs : List ℕ → ℕ → Timer → Type 0
Runs d link t = deadline d link t < idle

-- The last time given, behind those of n links.
abbrev pub last_time : List ℕ → ℕ → ℕ
last_time d n = get_or d (3 * n) 0

-- The list with another deadline, and with another last time.
abbrev pub with_deadline : ℕ → List ℕ → ℕ → Timer → List ℕ
with_deadline x d link t = set d (place_of link t) x

abbrev pub with_time : ℕ → List ℕ → ℕ → List ℕ
with_time x d n = set d (3 * n) x

-- ORDERS

pub data Order : Type 0 where
  Set Reset : Timer → Order
  none : Order

-- The code of a signal record, and the order that it is, by the signals of Table 6; most are none.
pub record Meaning : Type 0 where
  pub code : ℕ
  pub order : Order

infixl 20 ◌is◌
abbrev pub ◌is◌ : Told → Order → Meaning
a is o = record { code = code a; order = o }

abbrev pub orders : List Meaning
orders =
    (Told.Set T1 is Set T1)
    ∷ (Told.Set T2 is Set T2)
    ∷ (Told.Set T3 is Set T3)
    ∷ (Told.Reset T1 is Reset T1)
    ∷ (Told.Reset T2 is Reset T2)
    ∷ (Told.Reset T3 is Reset T3)
    ∷ []

abbrev pub among : List Meaning → ℕ → Order
among [] c = none
among (m ∷ others) c = cond (eqb c m.code) m.order (among others c)

abbrev pub order_of : ℕ → Order
order_of c = among orders c

-- Table 5, in milliseconds.
abbrev pub 5-seconds : ℕ
5-seconds = 5000

abbrev pub 30-seconds : ℕ
30-seconds = 30000

-- How long a timer runs: T3 as long as its link's period says, which is t3.
abbrev pub period : ℕ → Timer → ℕ
period t3 T1 = 5-seconds
period t3 T2 = 30-seconds
period t3 T3 = t3

-- The list once an order for a link is followed: a timer that is set is due its period after the time, whether it ran or not.
abbrev pub followed : Order → List ℕ → ℕ → ℕ → ℕ → List ℕ
followed (Set t) d link t3 time = with_deadline (time + period t3 t) d link t
followed (Reset t) d link t3 time = with_deadline idle d link t
followed none d link t3 time = d

-- The code of the event to hand in once a timer is due.
abbrev pub expiry : Timer → ℕ
expiry T1 = T1-expired
expiry T2 = T2-expired
expiry T3 = T3-expired
