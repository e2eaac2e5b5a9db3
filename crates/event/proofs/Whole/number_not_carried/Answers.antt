-- `event::Whole::number_not_carried` meets its contract.
use Rattle.event.specs.Frame.{code_at, number_at}
use Rattle.event.proofs.Fields.{number_not_carried}
use Rattle.event.proofs.Whole.number_not_carried.Goals as goal

pub returns : goal.returns
returns c = rw c.numbered.ensures (number_not_carried (code_at c.args.self.octets.now) (number_at c.args.self.octets.now))
