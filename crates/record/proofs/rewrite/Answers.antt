-- `record::rewrite` meets its contract: what `note` left is the record's octets with the link's written over them and what is noted of the step, and so the link's own.
use Rattle.std.proofs.Common.{◌≡◌, ℕ, ◌<◌, ◌/◌, ◌%◌, get_or, ap, ◌∙◌, rules}
use Rattle.std.proofs.Math.ListN.{set}
use borrow.Author.Tests.{eq-eqb, ne_eqb}
use Rattle.octet.specs.Octets.{at}
use Rattle.record.specs.LinkRecord.{octets_of}
use Rattle.record.specs.Decoded.{noted_in}
use Rattle.record.proofs.Rewritten.{written, sent_in, rewritten}
use Rattle.record.proofs.rewrite.Goals as goal
use Rattle.record.proofs.rewrite.Goals.{After-note}

-- what `note` left, with the field that was sent, is the link's octets
left : (c : After-note) → sent_in c.args.sent c.note.new.r ≡ octets_of c.args.l
left c =
    let a = c.args in
    let o : (i : ℕ) → at a.r.now i < 256 = λ i. search rules in
    let h : get_or c.to_be_bytes.result 0 0 ≡ a.l.c1 / 256 = search rules in
    let w : get_or c.to_be_bytes.result 1 0 ≡ a.l.c1 % 256 = search rules in
    let stands : c.note.new.r ≡ noted_in a.noted (written a.r.now a.l) a.e.now =
    rw (c.note.ensures, c.state_code.ensures, c.flags.ensures, c.code.ensures, c.code-2.ensures, c.timers.ensures, h, w) in
    ap (sent_in a.sent) stands ∙ rewritten a.r.now a.e.now a.l a.noted a.sent o c.told-r c.requires.1 c.requires.2

pub returns-then-sent-ne0 : goal.returns-then-sent-ne0
returns-then-sent-ne0 c =
    ap (set c.note.new.r 17) c.field_sent.ensures ∙ rw (ne_eqb c.args.sent 0 c.if-sent-ne0.true) at (left (goal.at.returns-then-sent-ne0 c).After-note)

pub returns-else-sent-ne0 : goal.returns-else-sent-ne0
returns-else-sent-ne0 c = rw (eq-eqb c.args.sent 0 c.if-sent-ne0.false) at (left (goal.at.returns-else-sent-ne0 c).After-note)
