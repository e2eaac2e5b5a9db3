-- `event::Whole::number_out_of_range` meets its contract.
use Rattle.event.specs.Frame.{code_at, number_at}
use Rattle.event.proofs.Fields.{source_out_of_range}
use Rattle.event.proofs.Whole.number_out_of_range.Goals as goal

pub returns : goal.returns
returns c = source_out_of_range (code_at c.args.self.octets.now) (number_at c.args.self.octets.now)
