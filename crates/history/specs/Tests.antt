-- The two sides of the demand, and what there is to retrieve, as tests that compute. Nothing here has to be believed: the laws below tie them to History.antt and
-- Bsnt.antt.
use Rattle.std.specs.Prelude.{ℕ, ◌≡◌, ◌↔◌, Bool, true, false, cond, not, ◌&&◌, ◌||◌, List, [], ◌∷◌, eqb}
use Rattle.link.specs.declared.Num.{Num}
use Rattle.link.specs.declared.Bsnt.{Bsnt}
use Rattle.link.specs.Effect.{taken, not_retrievable}
use Rattle.history.specs.History.{Mark, comes_up, edge, proving_sent, ins_sent, ins_received, in_service, turn, none, count, decided, Stands, Served}
use Rattle.history.specs.Bsnt.{data_accepted, number_of, new_connection, Latest}

-- The marks after the latest that passes a test; it and those before it.
abbrev pub after : (Mark → Bool) → List Mark → List Mark
after p [] = []
after p (m ∷ h) = cond (p m) [] (m ∷ after p h)

abbrev pub from : (Mark → Bool) → List Mark → List Mark
from p [] = []
from p (m ∷ h) = cond (p m) (m ∷ h) (from p h)

abbrev pub begins : (Mark → Bool) → List Mark → Bool
begins p [] = false
begins p (m ∷ h) = p m

-- an INS unit was sent after n proving units
abbrev pub ins_after : ℕ → List Mark → Bool
ins_after n [] = false
ins_after n (m ∷ h) = (ins_sent m && eqb (count proving_sent h) n) || ins_after n h

unfoldable pub stands : List Mark → Bool
stands h = begins in_service (from turn h)

unfoldable pub alive : List Mark → Bool
alive h = begins comes_up (from edge h)

unfoldable pub sent : List Mark → ℕ
sent h = count proving_sent (after edge h)

unfoldable pub due : ℕ → List Mark → ℕ
due n1 h = decided n1 (from edge h)

unfoldable pub told_ins : ℕ → List Mark → Bool
told_ins n1 h = ins_after (decided n1 (from edge h)) (after edge h)

unfoldable pub heard_ins : List Mark → Bool
heard_ins h = not (none ins_received (after edge h))

abbrev pub served : ℕ → List Mark → Bool
served n1 h = alive h && (eqb (sent h) (due n1 h) && (told_ins n1 h && heard_ins h))

abbrev pub StandsTested : Type 0
StandsTested = (h : List Mark) → Stands h ↔ (stands h ≡ true)

abbrev pub ServedTested : Type 0
ServedTested = (n1 : ℕ) (h : List Mark) → Served n1 h ↔ (served n1 h ≡ true)

-- the number of the latest DATA since the latest connection came up, where one did
unfoldable pub bsnt : List Mark → Bsnt
bsnt [] = not_retrievable
bsnt (m ∷ h) = cond (new_connection m) not_retrievable (cond (data_accepted m && not (none new_connection h)) (taken (number_of m)) (bsnt h))

abbrev pub LatestTested : Type 0
LatestTested = (h : List Mark) (n : Num) → Latest h n ↔ (bsnt h ≡ taken n)
