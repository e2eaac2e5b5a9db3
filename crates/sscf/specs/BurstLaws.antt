-- What holds of a burst on all octets, said plainly. All of it follows from Burst.antt.
use Rattle.std.specs.Prelude.{ℕ, ◌+◌, ◌-◌, ◌*◌, ◌/◌, ◌≤◌, ◌<◌, ◌≡◌, true, false, ◌⊎◌, List, [], ◌∷◌, ◌++◌, length, take, drop, get_or}
use Rattle.event.specs.Frame.{link_at}
use Rattle.event.specs.EventRecord.{framed}
use Rattle.event.specs.EndToEnd.{sound, frames}
use Rattle.step.specs.Step.{bad_table, record_at, output_octets, step_call}
use Rattle.sscf.specs.Burst.{BurstOutcome, bursting, burst_answered, burst_call}

-- REFUSALS are by 1 and by 13. They have 0 in every other field and change nothing.
abbrev pub BurstRefusalsUntouched : Type 0
BurstRefusalsUntouched =
    (t es o l : List ℕ) → let c = burst_call t es o l in
    1 ≤ c.answer.refusal → ((c.answer.refusal ≡ 1) ⊎ (c.answer.refusal ≡ 13)) × (c ≡ bursting (burst_answered c.answer.refusal 0 0 0 0 0) t o l)

-- PAST WHAT WAS WRITTEN output and list are as they were, and so is the record of a link that no event that was taken names. All lengths stay.
pub record BurstUntouched (t o l : List ℕ) (c : BurstOutcome) : Type 0 where
  pub output : drop c.answer.octets c.output ≡ drop c.answer.octets o
  pub list : drop c.answer.taken c.list ≡ drop c.answer.taken l
  pub lengths : (length c.table ≡ length t) × (length c.output ≡ length o) × (length c.list ≡ length l)

abbrev pub BurstRestUntouched : Type 0
BurstRestUntouched = (t es o l : List ℕ) → BurstUntouched t o l (burst_call t es o l)

abbrev pub NamedByNone : ℕ → List (List ℕ) → Type 0
NamedByNone k [] = Unit {0}
NamedByNone k (e ∷ others) = (k ≡ link_at e → ⊥) × NamedByNone k others

abbrev pub BurstOthersUntouched : Type 0
BurstOthersUntouched =
    (t es o l : List ℕ) (k : ℕ) → let c = burst_call t es o l in
    NamedByNone k (take c.answer.taken (frames es)) → record_at c.table k ≡ record_at t k

-- ONE SOUND EVENT with room and a place in the list: the single call, octet for octet.
abbrev pub OneEvent : Type 0
OneEvent =
    (t e o l : List ℕ) (n : ℕ) → bad_table t ≡ false → framed e ≡ true → output_octets ≤ length o → let c = step_call t e o in
    burst_call t e o (n ∷ l) ≡ bursting (burst_answered 0 0 1 (length e) c.answer.octets c.answer.signals) c.table c.output (c.answer.refusal ∷ l)

-- A burst that is not refused STOPS at the end; else at a broken frame, which is told, whatever room there is; else, before a sound one, for want of room. So early
-- only for want of room or at a broken frame. `at` is in octets of the events, and those behind it are the events that were not taken: there a host goes on.
pub record Stops (es o : List ℕ) (c : BurstOutcome) : Type 0 where
  pub inside : c.answer.at ≤ length es
  pub others : frames (drop c.answer.at es) ≡ drop c.answer.taken (frames es)
  pub why :
      ((c.answer.at ≡ length es) × (c.answer.broken ≡ 0))
      ⊎ (((c.answer.at < length es) × (sound (drop c.answer.at es) ≡ false) × (c.answer.broken ≡ 2))
      ⊎ ((sound (drop c.answer.at es) ≡ true) × (length o - c.answer.octets < output_octets) × (c.answer.broken ≡ 0)))

abbrev pub StopsOnly : Type 0
StopsOnly = (t es o l : List ℕ) → (burst_call t es o l).answer.refusal ≡ 0 → Stops es o (burst_call t es o l)

-- Of no events nothing is done, and every field is 0.
abbrev pub NoEvents : Type 0
NoEvents = (t o l : List ℕ) → bad_table t ≡ false → burst_call t [] o l ≡ bursting (burst_answered 0 0 0 0 0 0) t o l

-- With 4,240 octets of output and twelve times those of the events beside them it takes all sound ones before the first broken frame.
abbrev pub AlwaysRoom : Type 0
AlwaysRoom = (t es o l : List ℕ) → (burst_call t es o l).answer.refusal ≡ 0 → output_octets + 12 * length es ≤ length o → (burst_call t es o l).answer.taken ≡ length (frames es)

-- A list with a number for every twelve octets of them is never too short.
abbrev pub AlwaysPlace : Type 0
AlwaysPlace = (t es o l : List ℕ) → length es / 12 ≤ length l → (burst_call t es o l).answer.refusal ≡ 13 → ⊥

-- SPLIT IN TWO, at any event: what comes before is sound frames and nothing else.
abbrev pub end_to_end : List (List ℕ) → List ℕ
end_to_end [] = []
end_to_end (e ∷ others) = e ++ end_to_end others

abbrev pub Events : List ℕ → Type 0
Events es = end_to_end (frames es) ≡ es

-- What two bursts give together, the second one with what the first left: its table, the rest of its output and the rest of its list.
abbrev pub then : BurstOutcome → List ℕ → BurstOutcome
then a es = burst_call a.table es (drop a.answer.octets a.output) (drop a.answer.taken a.list)

abbrev pub together : BurstOutcome → BurstOutcome → BurstOutcome
together a b =
    bursting
    (burst_answered b.answer.refusal b.answer.broken (a.answer.taken + b.answer.taken) (a.answer.at + b.answer.at) (a.answer.octets + b.answer.octets) (a.answer.signals + b.answer.signals))
    b.table
    (take a.answer.octets a.output ++ b.output)
    (take a.answer.taken a.list ++ b.list)

-- Of a whole that is not refused: where the first takes all its events, both give together what the whole gives. Where it stops for want of room, so does the whole,
-- and gives what the first gives.
abbrev pub SplitInTwo : Type 0
SplitInTwo =
    (t es others o l : List ℕ) → Events es → (burst_call t (es ++ others) o l).answer.refusal ≡ 0 → let a = burst_call t es o l in
    (a.answer.refusal ≡ 0)
    × (a.answer.taken ≡ length (frames es) → burst_call t (es ++ others) o l ≡ together a (then a others))
    × (a.answer.taken < length (frames es) → burst_call t (es ++ others) o l ≡ a)

-- WHAT WAS DONE BEFORE a broken frame stands: all but `broken` is as without it.
abbrev pub BrokenStands : Type 0
BrokenStands =
    (t es others o l : List ℕ) → Events es → sound others ≡ false → let a = burst_call t es o l in let c = burst_call t (es ++ others) o l in
    c ≡ bursting (burst_answered a.answer.refusal c.answer.broken a.answer.taken a.answer.at a.answer.octets a.answer.signals) a.table a.output a.list

-- THE 2 IS A REFUSAL OF THAT FRAME: handed to the single call, with all that is behind it and any output, it is refused by 2.
abbrev pub BrokenRefused : Type 0
BrokenRefused =
    (t es o l p : List ℕ) → let c = burst_call t es o l in
    c.answer.refusal ≡ 0 → c.answer.broken ≡ 2 → (step_call c.table (drop c.answer.at es) p).answer.refusal ≡ 2

-- EVERY NUMBER THAT THE LIST TAKES is 0, 3, 5 to 8 or 10 to 12: table, frame and room are asked before.
abbrev pub AskedBefore : Type 0
AskedBefore =
    (t es o l : List ℕ) (i : ℕ) → let c = burst_call t es o l in let n = get_or c.list i 0 in
    i < c.answer.taken → (n ≡ 0) ⊎ ((n ≡ 3) ⊎ (((5 ≤ n) × (n ≤ 8)) ⊎ ((10 ≤ n) × (n ≤ 12))))
