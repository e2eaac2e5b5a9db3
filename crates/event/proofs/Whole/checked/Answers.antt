-- `event::Whole::checked` meets its contract.
use Rattle.std.proofs.Common.{ap, ◌∙◌}
use Rattle.event.specs.EventRecord.{fitting}
use Rattle.event.proofs.EventRecord.{fields_known, told_misfit}
use Rattle.event.proofs.Whole.checked.Goals as goal

pub returns-in-Closer : goal.returns-in-Closer
returns-in-Closer c =
    told_misfit _ _ c.map_err.ensures.cases ∙ ap fitting c.field_by_field.ensures ∙ fields_known _ c.in-Closer.ensures
