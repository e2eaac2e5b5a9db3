-- What reading an octet answers, as a status and as MPS. Nothing here has to be believed: no promise of a call names it.
use Rattle.std.specs.Prelude.{ℕ, ◌≡◌, [], ◌∷◌, get_or, Option, Some, None, Result}
use Rattle.std.specs.Result.{result_ok}
use Rattle.unit.specs.declared.Status.{Status}
use Rattle.unit.specs.declared.Mps.{Mps}
use Rattle.unit.specs.declared.Unnamed.{Unnamed}
use Rattle.unit.specs.Unit.{decoded}

-- The status that a field codes, or an error where it codes none.
abbrev pub Names : ℕ → Result Status Unnamed → Type 0
Names field r = result_ok r ≡ decoded field

-- The proving state that a code stands for, if it does for one; and that, or an error where there is none.
abbrev pub mps_named : ℕ → Option Mps
mps_named c = get_or (Some Mps.Neutral ∷ Some Mps.Normal ∷ Some Mps.Emergency ∷ []) c None

abbrev pub MpsNamed : ℕ → Result Mps Unnamed → Type 0
MpsNamed c r = result_ok r ≡ mps_named c
