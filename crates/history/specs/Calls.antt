-- Any sequence of the three calls, and what the host saw of each that was accepted. All of it is octets, given to the calls and got from them.
use Rattle.std.specs.Prelude.{ℕ, zero, suc, ◌<◌, ◌≡◌, cond, List, [], ◌∷◌, eqb, take}
use Rattle.event.specs.EndToEnd.{front, behind}
use Rattle.step.specs.Step.{records, Outcome, step_call}
use Rattle.sscf.specs.Burst.{Single, singles}
use Rattle.sscf.specs.Fresh.{fresh_call}

-- A call: a table made anew in a buffer, or a step or a burst on the table that there is, "lent as a table and never as room for other output". Any octets, of any
-- length.
pub data Call : Type 0 where
  fresh : (buffer : List ℕ) (n1 : ℕ) → Call
  step : (event output : List ℕ) → Call
  burst : (events output list : List ℕ) → Call

-- What the host saw of an accepted step: the event that it gave, and the signal records that it got.
pub record Seen : Type 0 where
  pub event : List ℕ
  pub signals : List (List ℕ)

-- Of records that stand one behind the other the first n, each as long as its own length says.
abbrev pub cut : ℕ → List ℕ → List (List ℕ)
cut zero octets = []
cut (suc n) octets = front octets ∷ cut n (behind octets)

-- The signals of a step: as many records as it answered, in the octets of the output that it answered.
abbrev pub signals_in : Outcome → List (List ℕ)
signals_in after = cut after.answer.signals (take after.answer.octets after.output)

-- The table with its history: the n1 that it was made with, and every accepted step since, the latest first.
pub record World : Type 0 where
  pub table : List ℕ
  pub n1 : ℕ
  pub seen : List Seen

-- "A table made anew begins a new history."
abbrev pub made : List ℕ → ℕ → World
made buffer n1 = record { table = (fresh_call buffer n1).table; n1 = n1; seen = [] }

-- "A refused call counts as nothing": the table is what the step left, and the history is longer only where the step answered 0.
abbrev pub stepped : World → List ℕ → Outcome → World
stepped w e after =
    record {
      table = after.table;
      n1 = w.n1;
      seen = cond (eqb after.answer.refusal 0) (record { event = e; signals = signals_in after } ∷ w.seen) w.seen;
    }

-- "Demand 3 reads a burst as its single calls."
abbrev pub each : World → List Single → World
each w [] = w
each w (s ∷ others) = each (stepped w s.event s.after) others

-- One call. A table that was made takes the place of the one that there is; where none was made, that one is as it was.
unfoldable pub next : World → Call → World
next w (fresh buffer n1) = cond (eqb (fresh_call buffer n1).answer.refusal 0) (made buffer n1) w
next w (step e o) = stepped w e (step_call w.table e o)
next w (burst es o l) = each w (singles w.table es o l)

unfoldable pub run : World → List Call → World
run w [] = w
run w (c ∷ calls) = run (next w c) calls

-- "Take a fresh table altered only by these calls, and any sequence of calls. After each call", for each link of the table. It is said of every sequence, so of
-- every beginning of one.
abbrev pub AfterEachCall : (World → ℕ → Type 0) → Type 0
AfterEachCall P =
    (buffer : List ℕ) (n1 : ℕ) → (fresh_call buffer n1).answer.refusal ≡ 0 →
    (calls : List Call) (link : ℕ) → link < records (run (made buffer n1) calls).table → P (run (made buffer n1) calls) link
