-- What a plan of the code stands for, and an answer as one number. Nothing here has to be believed: the promises of the calls tie it to Step.antt and Burst.antt.
use Rattle.std.specs.Prelude.{ℕ, ◌/◌, ◌%◌, ◌≡◌, List, Result, Ok, Err}
use Rattle.unit.specs.Checks.{Check, passed, refused, first}
use Rattle.link.specs.Step as machine
use Rattle.link.specs.Stored.{Noted, signals_of}
use Rattle.step.specs.declared.checks.Plan.{Plan}
use Rattle.step.specs.declared.Refusal.{Refusal}
use Rattle.event.specs.Frame.{link_at, number_at}
use Rattle.event.specs.EventRecord.{event_of}
use Rattle.signal.specs.Writing.{given}
use Rattle.step.specs.declared.Answer.{Answer}
use Rattle.step.specs.Step.{link_for, answered}

-- What becomes of a step behind some of its checks: refused by the first of them that holds, or planned.
abbrev pub Planned : List (Check Refusal) → List ℕ → List ℕ → Result Plan Refusal → Type 0
Planned cs t e (Err r) = first cs ≡ refused r
Planned cs t e (Ok p) =
    (first cs ≡ passed)
    × (p.link ≡ link_at e)
    × (machine.step_of (link_for t e) (event_of e) ≡ machine.Legal p.next (signals_of p.said.count p.said.words (given p.next e)))
    × Noted (link_for t e) (number_at e) p.next p.said.noted p.said.sent

-- The number in which a step hands on its answer: the refusal, the signals, the octets and the place, each in sixteen bits, the refusal in the lowest.
abbrev pub told_by : ℕ → Answer
told_by n = answered (n % 65536) (n / 4294967296 % 65536) (n / 65536 % 65536) (n / 281474976710656)
