-- A burst, from table, events, output and list to answer, table, output and list, on all octets: its single calls one after the other.
use Rattle.std.specs.Prelude.{ℕ, ◌+◌, cond, ◌||◌, List, [], ◌∷◌, ◌++◌, map, eqb, ltb, length, take, drop}
use Rattle.unit.specs.Checks.{Check, ◌if◌, Verdict, passed, refused, first}
use Rattle.octet.specs.Octets.{over}
use Rattle.event.specs.EndToEnd.{sound, frames}
use Rattle.sscf.specs.declared.BurstAnswer.{BurstAnswer}
use Rattle.step.specs.declared.Refusal.{Refusal}
use Rattle.step.specs.Checks.{number}
use Rattle.step.specs.Step.{bad_table, output_octets, Outcome, step_call}

-- THE SINGLE CALLS

-- What one wrote, and what it left of the output.
abbrev pub written : Outcome → List ℕ
written after = take after.answer.octets after.output

abbrev pub left : Outcome → List ℕ
left after = drop after.answer.octets after.output

-- An event, and what its single call comes to.
pub record Single : Type 0 where
  pub event : List ℕ
  pub after : Outcome

-- One after the other, each on the table that the one before left and with what it left of the output, while that is 4,240 octets at least.
abbrev pub singly : List (List ℕ) → List ℕ → List ℕ → List Single
singly [] t o = []
singly (e ∷ others) t o = let c = step_call t e o in cond (ltb (length o) output_octets) [] (record { event = e; after = c } ∷ singly others c.table (left c))

-- WHAT THEY COME TO TOGETHER: their events' octets, their numbers, their signals' octets joined and counted, and the table that the last of them left.
abbrev pub events_of : List Single → List ℕ
events_of [] = []
events_of (s ∷ others) = s.event ++ events_of others

abbrev pub numbers_of : List Single → List ℕ
numbers_of done = map (λ (s : Single). s.after.answer.refusal) done

abbrev pub written_by : List Single → List ℕ
written_by [] = []
written_by (s ∷ others) = written s.after ++ written_by others

abbrev pub signals_by : List Single → ℕ
signals_by [] = 0
signals_by (s ∷ others) = s.after.answer.signals + signals_by others

abbrev pub table_after : List ℕ → List Single → List ℕ
table_after t [] = t
table_after t (s ∷ others) = table_after s.after.table others

-- THE CALL

pub record BurstOutcome : Type 0 where
  pub answer : BurstAnswer
  pub table : List ℕ
  pub output : List ℕ
  pub list : List ℕ

abbrev pub bursting : BurstAnswer → List ℕ → List ℕ → List ℕ → BurstOutcome
bursting a t o l = record { answer = a; table = t; output = o; list = l }

abbrev pub burst_answered : (refusal broken taken at octets signals : ℕ) → BurstAnswer
burst_answered refusal broken taken at octets signals =
    record { refusal = refusal; broken = broken; taken = taken; at = at; octets = octets; signals = signals }

-- "First 1 for the table, then 13": the list is shorter than the sound frames before the first broken one.
abbrev pub burst_checks : List ℕ → List ℕ → List ℕ → List (Check Refusal)
burst_checks t es l = (Refusal.Table if bad_table t) ∷ (Refusal.List if ltb (length l) (length (frames es))) ∷ []

-- Where it stops: at the end of the events, at a broken frame, which is told, or at an event for which there is no room.
abbrev pub broken_at : List ℕ → ℕ
broken_at rest = cond (eqb (length rest) 0 || sound rest) 0 (number Refusal.Frame)

abbrev pub came : List Single → List ℕ → List ℕ → List ℕ → List ℕ → BurstOutcome
came done t es o l =
    let at = length (events_of done) in
    bursting (burst_answered 0 (broken_at (drop at es)) (length done) at (length (written_by done)) (signals_by done)) (table_after t done) (over (written_by done) o) (over (numbers_of done) l)

-- The calls that a burst makes: none where it is refused.
abbrev pub calls_by : Verdict Refusal → List ℕ → List ℕ → List ℕ → List Single
calls_by (refused r) t es o = []
calls_by passed t es o = singly (frames es) t o

unfoldable pub singles : List ℕ → List ℕ → List ℕ → List ℕ → List Single
singles t es o l = calls_by (first (burst_checks t es l)) t es o

-- A refusal has 0 in every other field and changes nothing.
abbrev pub burst : Verdict Refusal → List ℕ → List ℕ → List ℕ → List ℕ → BurstOutcome
burst (refused r) t es o l = bursting (burst_answered (number r) 0 0 0 0 0) t o l
burst passed t es o l = came (calls_by passed t es o) t es o l

unfoldable pub burst_call : List ℕ → List ℕ → List ℕ → List ℕ → BurstOutcome
burst_call t es o l = burst (first (burst_checks t es l)) t es o l
