-- What every step keeps, whatever the record and the event: n1, a C1 that is at most n1, a BSNT of 0 where none is known, and a last field that is 0 or a status
-- code; how many signals there are at most, that at most one of them carries the event's message, and at most one anything that the event or the link brings.
use Rattle.std.specs.Prelude.{ℕ, ◌+◌, ◌≤◌, ◌≡◌, Bool, true, cond, ◌&&◌, ◌||◌, List, [], ◌∷◌, eqb, length}
use Rattle.unit.specs.Unit.{none_or_status}
use Rattle.table6.specs.Words.{SSCOP-UU, third}
use Rattle.table6.specs.SignalCodes.{RECEIVED-MESSAGE, LINK-CONGESTED, RETRIEVED-MESSAGES, BSNT, ESTABLISH-request, ESTABLISH-response, DATA-request, RETRIEVE-request, REPORT}
use Rattle.link.specs.declared.Link.{Link}
use Rattle.link.specs.declared.Carries.{Carries}
use Rattle.link.specs.declared.Signal.{Signal}
use Rattle.link.specs.declared.Event.{Event}
use Rattle.link.specs.Effect.{NoneIsZero}
use Rattle.link.specs.Step.{Outcome, Illegal, Legal, step_of}

abbrev pub messages_in : Carries → ℕ
messages_in Carries.Nothing = 0
messages_in (Carries.Unit s) = 0
messages_in Carries.Message = 1

abbrev pub messages : List Signal → ℕ
messages [] = 0
messages (s ∷ others) = messages_in s.carries + messages others

-- A signal that carries what the event or the link brings: a message, a number, a parameter; of the REPORTs the one of SSCOP-UU. A unit counts with them.
abbrev pub brings : Signal → Bool
brings s =
    eqb s.code RECEIVED-MESSAGE
    || eqb s.code LINK-CONGESTED
    || eqb s.code RETRIEVED-MESSAGES
    || eqb s.code BSNT
    || eqb s.code ESTABLISH-request
    || eqb s.code ESTABLISH-response
    || eqb s.code DATA-request
    || eqb s.code RETRIEVE-request
    || (eqb s.code REPORT && eqb s.num.c (third SSCOP-UU))

abbrev pub brought : List Signal → ℕ
brought [] = 0
brought (s ∷ others) = cond (brings s) 1 0 + brought others

pub record After (l after : Link) (said : List Signal) : Type 0 where
  pub n1 : after.n1 ≡ l.n1
  pub c1 : l.c1 ≤ l.n1 → after.c1 ≤ after.n1
  pub bsnt : NoneIsZero l.bsnt → NoneIsZero after.bsnt
  pub last : none_or_status l.last ≡ true → none_or_status after.last ≡ true
  pub eight : length said ≤ 8
  pub one_message : messages said ≤ 1
  pub one_brought : brought said ≤ 1

abbrev pub Keeps : Link → Outcome → Type 0
Keeps l Illegal = Unit {0}
Keeps l (Legal after said) = After l after said

abbrev pub Kept : Type 0
Kept = (l : Link) (e : Event) → Keeps l (step_of l e)
