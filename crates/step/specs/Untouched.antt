-- What holds of a step on all octets, said plainly: what it leaves alone, and what it has written. All of it follows from Step.antt.
use Rattle.std.specs.Prelude.{ℕ, ◌*◌, ◌≤◌, ◌≡◌, true, List, length, take, drop}
use Rattle.link.specs.declared.Link.{Link}
use Rattle.link.specs.declared.Signal.{Signal}
use Rattle.link.specs.Step as machine
use Rattle.record.specs.LinkRecord.{well_formed, octets_of}
use Rattle.event.specs.Frame.{link_at, message_of}
use Rattle.event.specs.EventRecord.{event_of}
use Rattle.signal.specs.SignalRecord.{joined}
use Rattle.step.specs.Step.{record_at, link_for, answered, answering, Outcome, step_call}

-- A refusal answers no octets and no signals, and changes nothing.
abbrev pub RefusalsUntouched : Type 0
RefusalsUntouched = (t e o : List ℕ) → 1 ≤ (step_call t e o).answer.refusal → step_call t e o ≡ answering (answered (step_call t e o).answer.refusal 0 0 (step_call t e o).answer.place) t o

-- Every octet of every record but the named one is as it was.
abbrev pub OthersUntouched : Type 0
OthersUntouched = (t e o : List ℕ) (k : ℕ) → (k ≡ link_at e → ⊥) → record_at (step_call t e o).table k ≡ record_at t k

-- Past the octets that are answered the output is as it was, and these are at most 4,240.
abbrev pub RestUntouched : Type 0
RestUntouched = (t e o : List ℕ) → drop (step_call t e o).answer.octets (step_call t e o).output ≡ drop (step_call t e o).answer.octets o

abbrev pub AtMost4240 : Type 0
AtMost4240 = (t e o : List ℕ) → (step_call t e o).answer.octets ≤ 4240

-- Nor do they ever take more than twelve times the event's own octets.
abbrev pub AtMostTwelvefold : Type 0
AtMostTwelvefold = (t e o : List ℕ) → (step_call t e o).answer.octets ≤ 12 * length e

-- Table and output keep their lengths.
abbrev pub SameLengths : Type 0
SameLengths = (t e o : List ℕ) → (length (step_call t e o).table ≡ length t) × (length (step_call t e o).output ≡ length o)

-- An output of 4,239 octets is refused. One of 4,240 is as good as any that is taken.
abbrev pub Refused4239 : Type 0
Refused4239 = (t e o : List ℕ) → length o ≡ 4239 → 1 ≤ (step_call t e o).answer.refusal

abbrev pub Taken4240 : Type 0
Taken4240 = (t e o p : List ℕ) → (step_call t e o).answer.refusal ≡ 0 → length p ≡ 4240 → (step_call t e p).answer ≡ (step_call t e o).answer

-- Acceptance: what Table 6 gives is what was written. As many records as are answered stand in as many octets as are answered, and the named record is the
-- link's next.
pub record Written (t e : List ℕ) (after : Outcome) : Type 0 where
  pub next : Link
  pub signals : List Signal
  pub gives : machine.step_of (link_for t e) (event_of e) ≡ machine.Legal next signals
  pub counted : after.answer.signals ≡ length signals
  pub octets : take after.answer.octets after.output ≡ joined (link_at e) (message_of e) signals
  pub packed : record_at after.table (link_at e) ≡ octets_of next

abbrev pub AcceptedWritten : Type 0
AcceptedWritten = (t e o : List ℕ) → (step_call t e o).answer.refusal ≡ 0 → Written t e (step_call t e o)

-- A well-formed record stays well-formed.
abbrev pub StaysWellFormed : Type 0
StaysWellFormed = (t e o : List ℕ) (k : ℕ) → well_formed (record_at t k) ≡ true → well_formed (record_at (step_call t e o).table k) ≡ true
