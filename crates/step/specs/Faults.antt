-- What the number and the place of a step's answer say, on all octets, and that the same is refused as when 10, 11 and 12 were 4. All of it follows from Step.antt.
use Rattle.std.specs.Prelude.{ℕ, ◌≤◌, ◌<◌, ◌≡◌, Bool, true, false, cond, not, ◌&&◌, ◌||◌, ◌⊎◌, List, [], ◌∷◌, eqb, leb, ltb, length}
use Rattle.unit.specs.Checks.{Check, ◌if◌, Verdict, passed, refused, first}
use Rattle.table6.specs.RefusalCodes.{REFUSED-TABLE, REFUSED-FRAME, REFUSED-CODE, REFUSED-LINK, REFUSED-RECORD, REFUSED-TIMER, REFUSED-STATE, REFUSED-OUTPUT, REFUSED-NOT-CARRIED}
use Rattle.link.specs.Step as machine
use Rattle.record.specs.LinkRecord.{well_formed}
use Rattle.event.specs.Frame.{link_at, code_at, param_at, number_at, length_at}
use Rattle.event.specs.Fields.{fault_number, EventField, not_carried, out_of_range}
use Rattle.event.specs.EventRecord.{framed, coded_in, unknown, event_of, fields_in}
use Rattle.event.specs.Refusal4.{misfit}
use Rattle.step.specs.Step.{bad_table, records, record_at, idle, is_illegal, link_for, output_octets, step_call}

-- THE PLACE is 5, 6 or 10 exactly with 10, 11 and 12, and else 0; with 11 it is no length's, and with 12 no other's. No number is 4.
abbrev pub NumberAndPlace : ℕ → ℕ → Type 0
NumberAndPlace n q =
    ((n ≡ 10) × ((q ≡ 5) ⊎ ((q ≡ 6) ⊎ (q ≡ 10))))
    ⊎ (((n ≡ 11) × ((q ≡ 5) ⊎ (q ≡ 6)))
    ⊎ (((n ≡ 12) × (q ≡ 10))
    ⊎ (((n ≤ 3) ⊎ ((5 ≤ n) × (n ≤ 9))) × (q ≡ 0))))

abbrev pub PlaceWithNumber : Type 0
PlaceWithNumber = (t e o : List ℕ) → NumberAndPlace (step_call t e o).answer.refusal (step_call t e o).answer.place

-- THE FIELD AT THAT PLACE is at fault for that number, no earlier one is, and for a lower of the three numbers none.

-- For 10 if it is set and the code does not carry it; for the field's own refusal if it is out of its range.
abbrev pub at_fault : ℕ → ℕ → EventField → Bool
at_fault n c f = (eqb n REFUSED-NOT-CARRIED && not_carried c f) || (eqb n (fault_number (f.refusal f.place)) && out_of_range c f)

abbrev pub SomeField : (EventField → Type 0) → List EventField → Type 0
SomeField P [] = ⊥
SomeField P (f ∷ others) = P f ⊎ SomeField P others

abbrev pub EachField : (EventField → Type 0) → List EventField → Type 0
EachField P [] = Unit {0}
EachField P (f ∷ others) = P f × EachField P others

pub record FirstAtFault (n q c : ℕ) (fs : List EventField) : Type 0 where
  pub there : SomeField (λ (f : EventField). (f.place ≡ q) × (at_fault n c f ≡ true)) fs
  pub earlier : EachField (λ (f : EventField). f.place < q → at_fault n c f ≡ false) fs
  pub lower : (m : ℕ) → m < n → EachField (λ (f : EventField). at_fault m c f ≡ false) fs

abbrev pub FieldNamed : Type 0
FieldNamed =
    (t e o : List ℕ) → let a = (step_call t e o).answer in
    10 ≤ a.refusal → FirstAtFault a.refusal a.place (code_at e) (fields_in e)

-- SUCH A REFUSAL IS OF THE EVENT ALONE: on every table that is not refused itself, with any output, the same event gets the same number and place.
abbrev pub OfTheEvent : Type 0
OfTheEvent =
    (t e o u p : List ℕ) → 10 ≤ (step_call t e o).answer.refusal → bad_table u ≡ false →
    ((step_call u e p).answer.refusal ≡ (step_call t e o).answer.refusal) × ((step_call u e p).answer.place ≡ (step_call t e o).answer.place)

-- THE SAME IS REFUSED as by document 01's list, which had 4 where 10, 11 and 12 are: the number that it gave is the one given now, with 4 for these three.
abbrev pub former_checks : List ℕ → List ℕ → ℕ → List (Check ℕ)
former_checks t e room =
    (REFUSED-TABLE if bad_table t)
    ∷ (REFUSED-FRAME if not (framed e))
    ∷ (REFUSED-CODE if unknown (coded_in e))
    ∷ (4 if misfit (code_at e) (param_at e) (number_at e) (length_at e))
    ∷ (REFUSED-LINK if leb (records t) (link_at e))
    ∷ (REFUSED-RECORD if not (well_formed (record_at t (link_at e))))
    ∷ (REFUSED-TIMER if idle (link_for t e) (code_at e))
    ∷ (REFUSED-STATE if is_illegal (machine.step_of (link_for t e) (event_of e)))
    ∷ (REFUSED-OUTPUT if ltb room output_octets)
    ∷ []

-- 0 where none refuses
abbrev pub former_number : Verdict ℕ → ℕ
former_number passed = 0
former_number (refused n) = n

abbrev pub with4 : ℕ → ℕ
with4 n = cond (leb 10 n && leb n 12) 4 n

abbrev pub SameRefusals : Type 0
SameRefusals = (t e o : List ℕ) → former_number (first (former_checks t e (length o))) ≡ with4 (step_call t e o).answer.refusal
