-- `lines::signal_line` meets its contract: the code and the parameter, the number, the message and the end of the line.
use Rattle.std.proofs.Common.{ap, length, append_assoc, arith, rules}
use Rattle.lines.proofs.Texts.{message_fits, ◌then◌, from_front}
use Rattle.lines.proofs.signal_line.Goals as goal

pub add_message-requires : goal.add_message-requires
add_message-requires c = omega (arith, ap length c.new-line.ensures.front.0, message_fits c.args.r.now _ c.message.ensures)

pub returns : goal.returns
returns c =
    let number = c.number-3.ensures.0 then c.number-4.ensures.0 then c.number-5.ensures.0 in
    let q = c.add.ensures then c.number.ensures.0 then c.number-2.ensures.0 then number then c.add_message.ensures.0 then c.add-2.ensures in
    (from_front q (simp (append_assoc, c.message.ensures)) c.new-line.ensures.front (search rules), omega (arith, message_fits c.args.r.now _ c.message.ensures))
