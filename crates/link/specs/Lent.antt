-- What the three forms of the step promise: by value, on a record that is lent, and with a copy lent. An outcome of specs/Step.antt, taken apart into the
-- record and the answer.
use Rattle.std.specs.Prelude.{◌≡◌, List, Option, Some, None}
use Rattle.unit.specs.Answered.{Answered, refused, accepted}
use Rattle.table6.specs.RefusalCodes.{REFUSED-STATE}
use Rattle.link.specs.declared.Link.{Link}
use Rattle.link.specs.declared.Event.{Event}
use Rattle.link.specs.declared.View.{View}
use Rattle.link.specs.declared.Signal.{Signal}
use Rattle.link.specs.declared.Said.{Said}
use Rattle.link.specs.Step.{Outcome, Illegal, Legal}
use Rattle.link.specs.Stored.{view_of, number_in, Noted, given_by, signals_of}

-- The record after an event: an illegal one leaves it as it was.
abbrev pub left_by : Link → Outcome → Link
left_by l Illegal = l
left_by l (Legal next signals) = next

-- What is answered of it: refused, or accepted with the signals.
abbrev pub said_by : Outcome → Answered (List Signal)
said_by Illegal = refused REFUSED-STATE
said_by (Legal next signals) = accepted signals

-- What a reply of the code stands for, at an event with this view and with this record after it.
abbrev pub replied : View → Link → Option Said → Answered (List Signal)
replied v after None = refused REFUSED-STATE
replied v after (Some s) = accepted (signals_of s.count s.words (given_by v.1 (number_in v) after))

-- What a reply notes of the step.
abbrev pub Notes : Link → View → Link → Option Said → Type 0
Notes l v after None = Unit {0}
Notes l v after (Some s) = Noted l (number_in v) after s.noted s.sent

-- The promise: a link that an event turns by this outcome has this record after it, and this is replied.
pub record Turned (l : Link) (e : Event) (o : Outcome) (after : Link) (reply : Option Said) : Type 0 where
  pub left : after ≡ left_by l o
  pub said : replied (view_of e l.c1) after reply ≡ said_by o
  pub notes : Notes l (view_of e l.c1) after reply
