-- Document 01's code of each state, and what reading a code answers.
use Rattle.std.specs.Prelude.{ℕ, ◌≡◌, [], ◌∷◌, get_or, Option, Some, None, Result}
use Rattle.std.specs.Result.{result_ok}
use Rattle.unit.specs.declared.Unnamed.{Unnamed}
use Rattle.table6.specs.declared.State.{State}

-- The state that a code stands for, if it does for one.
abbrev pub state_named : ℕ → Option State
state_named c =
    get_or
    (None
    ∷ Some State.S111
    ∷ Some State.S141
    ∷ Some State.S212
    ∷ Some State.S222
    ∷ Some State.S242
    ∷ Some State.S2103
    ∷ Some State.S2104
    ∷ Some State.S3105
    ∷ [])
    c None

-- What reading a code answers: that state, or an error where there is none.
abbrev pub StateNamed : ℕ → Result State Unnamed → Type 0
StateNamed c r = result_ok r ≡ state_named c
