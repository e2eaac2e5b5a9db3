-- In which order the signals of a cell go out: as the paper prints them, but timer orders last, resets before sets, T1 first (document 01).
use Rattle.std.specs.Prelude.{ℕ, Bool, false, cond, ◌||◌, List, [], ◌∷◌, ◌++◌, eqb}
use Rattle.table6.specs.Cell.{Told, Act, tell, alter}
use Rattle.table6.specs.SignalCodes.{code, RESET-T1, RESET-T2, RESET-T3, SET-T1, SET-T2, SET-T3}

-- What is told, as printed.
abbrev pub told_in : List Act → List Told
told_in [] = []
told_in (tell a ∷ acts) = a ∷ told_in acts
told_in (alter a ∷ acts) = told_in acts

-- The timer orders, in the order in which they go out.
abbrev pub orders : List ℕ
orders = RESET-T1 ∷ RESET-T2 ∷ RESET-T3 ∷ SET-T1 ∷ SET-T2 ∷ SET-T3 ∷ []

abbrev pub among : List ℕ → ℕ → Bool
among [] c = false
among (x ∷ codes) c = eqb x c || among codes c

-- Of what is told that which is no timer order; that which has a code; and that which has one of several, code by code.
abbrev pub but_orders : List Told → List Told
but_orders [] = []
but_orders (a ∷ others) = cond (among orders (code a)) (but_orders others) (a ∷ but_orders others)

abbrev pub coded : ℕ → List Told → List Told
coded c [] = []
coded c (a ∷ others) = cond (eqb (code a) c) (a ∷ coded c others) (coded c others)

abbrev pub by_codes : List ℕ → List Told → List Told
by_codes [] all = []
by_codes (c ∷ codes) all = coded c all ++ by_codes codes all

abbrev pub signals : List Act → List Told
signals acts = but_orders (told_in acts) ++ by_codes orders (told_in acts)
