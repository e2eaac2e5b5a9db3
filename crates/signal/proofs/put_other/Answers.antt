-- `signal::put_other` meets its contract: the mark and the link's number, and what is written behind them.
use Rattle.std.proofs.Common.{List, ℕ, ap, ◌∙◌, arith}
use Rattle.table6.specs.Stored.{word_at}
use Rattle.link.specs.Stored.{meant_by}
use Rattle.octet.specs.Octets.{over}
use Rattle.event.specs.Frame.{message_of}
use Rattle.signal.specs.Source.{brought_by}
use Rattle.signal.proofs.SignalRecord.{with_front}
use Rattle.signal.proofs.put_other.Goals as goal

pub returns : goal.returns
returns c =
    let a = c.args in
    with_front a.source.event.now (message_of a.source.event.now) (meant_by (brought_by a.source) (word_at a.w)) (omega (arith, a.source.octets 3))
    (c.put.ensures ∙ ap (λ (f : List ℕ). over f a.out.now) c.requires.1) c.put_carrying.ensures
