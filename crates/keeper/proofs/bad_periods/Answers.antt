-- `keeper::bad_periods` meets its contract: any out of range is what the definition looks for.
use Rattle.std.proofs.Common.{not, ◌&&◌, leb, rules, tests, ◌∙◌}
use Rattle.std.proofs.lemmas.Iterator.{YieldsList-from_slice}
use Rattle.std.proofs.lemmas.Iterator.Search.{any_from_yields_List}
use Rattle.keeper.proofs.Calls.{any_bad}
use Rattle.keeper.proofs.bad_periods.Goals as goal

pub returns : goal.returns
returns c =
    let p = c.args.periods.now in
    any_from_yields_List (λ x. not (leb 1 x && leb x 60000)) _ _ _ c.any.ensures.ran (YieldsList-from_slice p cc) (λ x b q k. search (rules, tests)) ∙ any_bad p
