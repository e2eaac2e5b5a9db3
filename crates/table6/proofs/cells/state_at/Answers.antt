-- `cells::state_at` meets its contract: the codes follow the columns, one behind each. Assumes nothing.
use Rattle.std.proofs.Common.{◌≡◌, ℕ, zero, suc, ◌%◌, List, [], ◌∷◌, ◌++◌, map, get_or, refl, ◌∙◌, ap, add-one}
use Rattle.std.specs.Prelude.{Option, Some, None, Result, Ok, Err, unwrap_or}
use Rattle.std.specs.Result.{result_ok, result_unwrap_or}
use Rattle.unit.specs.declared.Unnamed.{Unnamed}
use Rattle.table6.specs.declared.State.{State}
use Rattle.table6.specs.States.{state_named}
use Rattle.table6.proofs.cells.state_at.Goals as goal

by_ok : (r : Result State Unnamed) (s : State) → result_unwrap_or r s ≡ unwrap_or (result_ok r) s
by_ok (Ok t) s = refl
by_ok (Err e) s = refl

-- the last of a list may be left out where it is also what stands for all the rest
rest : (xs : List State) (d : State) (k : ℕ) → unwrap_or (get_or (map Some (xs ++ d ∷ [])) k None) d ≡ get_or xs k d
rest [] d zero = refl
rest [] d (suc k) = refl
rest (x ∷ xs) d zero = refl
rest (x ∷ xs) d (suc k) = rest xs d k

abbrev first_seven : List State
first_seven = State.S111 ∷ State.S141 ∷ State.S212 ∷ State.S222 ∷ State.S242 ∷ State.S2103 ∷ State.S2104 ∷ []

pub returns : goal.returns
returns c =
    let k : ℕ = c.args.column % 8 in
    c.unwrap_or.ensures
    ∙ by_ok c.try_from.result State.S3105
    ∙ ap (λ (o : Option State). unwrap_or o State.S3105) (c.try_from.ensures ∙ ap state_named (add-one k))
    ∙ rest first_seven State.S3105 k
