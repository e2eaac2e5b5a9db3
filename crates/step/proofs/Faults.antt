-- What the number and the place of a step's answer say, and that the same is refused as when 10, 11 and 12 were 4. Assumes nothing.
use mathlib.Core.Path.{◌≡◌, refl, sym, ap, subst, ◌∙◌}
use mathlib.Core.Bool.{Bool, true, false, cond, not, ◌&&◌, ◌||◌, true≢false}
use mathlib.Core.Logic.{◌⊎◌, inl, inr}
use mathlib.Core.List.{List}
use Prim.Native.Nat.{ℕ, ◌≤◌, ◌<◌}
use native.Mathlib.Omega.{arith}
use lib.Dec.{eqb, leb, ltb}
use lib.ListN.{length, drop}
use borrow.Author.Tests.{eqb-true}
use Rattle.unit.specs.Checks.{Check, Verdict, passed, refused, first}
use Rattle.unit.proofs.Checks.{clear, onward, given}
use Rattle.link.specs.declared.Num.{Num}
use Rattle.link.specs.Step as machine
use Rattle.record.specs.LinkRecord.{well_formed}
use Rattle.event.specs.declared.Fault.{Fault}
use Rattle.event.specs.Frame.{link_at, code_at, param_at, number_at, length_at}
use Rattle.event.specs.Fields.{fault_number, fault_place, EventField, parameter_field, number_field, length_field, fields, not_carried, out_of_range, field_checks}
use Rattle.event.specs.EventRecord.{framed, coded_in, unknown, event_of, fields_in}
use Rattle.event.specs.Refusal4.{misfit}
use Rattle.event.proofs.Fields.{same_misfits}
use Rattle.step.specs.declared.Refusal.{Refusal}
use Rattle.step.specs.Checks.{number, place}
use Rattle.step.specs.Step.{bad_table, records, record_at, idle, is_illegal, link_for, checks, output_octets, Outcome, step_call}
use Rattle.step.specs.Faults.{NumberAndPlace, PlaceWithNumber, at_fault, EachField, FirstAtFault, FieldNamed, OfTheEvent, former_checks, former_number, with4, SameRefusals}
use Rattle.step.proofs.Taken.{field_checks_lem, step_refused, step_accepted}

-- THE ANSWER BY THE VERDICT

abbrev number_in : Verdict Refusal → ℕ
number_in passed = 0
number_in (refused x) = number x

abbrev place_in : Verdict Refusal → ℕ
place_in passed = 0
place_in (refused x) = place x

-- of an answer, that it has number and place of a verdict
abbrev Tells : Verdict Refusal → Outcome → Type 0
Tells v z = (z.answer.refusal ≡ number_in v) × (z.answer.place ≡ place_in v)

tells : (t e o : List ℕ) (v : Verdict Refusal) → first (checks t e (length o)) ≡ v → Tells v (step_call t e o)
tells t e o (refused x) h = let s = step_refused t e o x h in (ap (λ (z : Outcome). z.answer.refusal) s, ap (λ (z : Outcome). z.answer.place) s)
tells t e o passed h = by (machine.step_of (link_for t e) (event_of e)) refl where
  by : (w : machine.Outcome) → machine.step_of (link_for t e) (event_of e) ≡ w → Tells passed (step_call t e o)
  by machine.Illegal g = absurd (true≢false (ap is_illegal (sym g) ∙ (clear (checks t e (length o)) h).1.1.1.1.1.1.1.1.1.1.1.1.0))
  by (machine.Legal next signals) g = let s = step_accepted t e o h g in (ap (λ (z : Outcome). z.answer.refusal) s, ap (λ (z : Outcome). z.answer.place) s)

-- THE PLACE, check by check

nowhere : (n : ℕ) → (n ≤ 3) ⊎ ((5 ≤ n) × (n ≤ 9)) → NumberAndPlace n 0
nowhere n h = inr (inr (inr (h, refl)))

placed : (t e : List ℕ) (room : ℕ) (v : Verdict Refusal) → first (checks t e room) ≡ v → NumberAndPlace (number_in v) (place_in v)
placed t e room passed h = nowhere 0 (inl (omega arith))
placed t e room (refused x) h =
    given (λ (y : Refusal). NumberAndPlace (number y) (place y)) (checks t e room) (
      nowhere 1 (inl (omega arith)),
      (
        nowhere 2 (inl (omega arith)),
        (
          nowhere 3 (inl (omega arith)),
          (
            inl (refl, inl refl),
            (
              inl (refl, inr (inl refl)),
              (
                inl (refl, inr (inr refl)),
                (
                  inr (inl (refl, inl refl)),
                  (
                    inr (inl (refl, inr refl)),
                    (
                      inr (inr (inl (refl, refl))),
                      (nowhere 5 (inr (omega arith, omega arith)), (nowhere 6 (inr (omega arith, omega arith)), (nowhere 7 (inr (omega arith, omega arith)), (nowhere 8 (inr (omega arith, omega arith)), (nowhere 9 (inr (omega arith, omega arith)), tt))))),
                    ),
                  ),
                ),
              ),
            ),
          ),
        ),
      ),
    )
    h

pub place_with_number : PlaceWithNumber
place_with_number t e o =
    let a = tells t e o (first (checks t e (length o))) refl in
    subst (λ (n : ℕ). NumberAndPlace n (step_call t e o).answer.place) (sym a.0)
    (subst (λ (q : ℕ). NumberAndPlace (number_in (first (checks t e (length o)))) q) (sym a.1) (placed t e (length o) (first (checks t e (length o))) refl))

-- THE FIELD AT THAT PLACE

-- a field is at fault for no number for which neither test holds
no_fault : (m k : ℕ) (u v : Bool) → (m ≡ 10 → u ≡ false) → (m ≡ k → v ≡ false) → (eqb m 10 && u) || (eqb m k && v) ≡ false
no_fault m k u v p q = by (eqb m 10) (eqb m k) refl refl where
  by : (a b : Bool) → eqb m 10 ≡ a → eqb m k ≡ b → (a && u) || (b && v) ≡ false
  by true true g h = rw (p (eqb-true m 10 g), q (eqb-true m k h))
  by true false g h = rw (p (eqb-true m 10 g))
  by false true g h = q (eqb-true m k h)
  by false false g h = refl

module _ (c p : ℕ) (n : Num) (len : ℕ) where
  abbrev Named : Verdict Fault → Type 0
  Named passed = Unit {0}
  Named (refused f) = FirstAtFault (fault_number f) (fault_place f) c (fields p n len)

  -- no field is at fault for a number below 10, and below 11 none where all are carried
  below_10 : (m : ℕ) → m < 10 → EachField (λ (f : EventField). at_fault m c f ≡ false) (fields p n len)
  below_10 m h =
      (no_fault m 11 _ _ (λ g. absurd (omega arith)) (λ g. absurd (omega arith)), (no_fault m 11 _ _ (λ g. absurd (omega arith)) (λ g. absurd (omega arith)), (no_fault m 12 _ _ (λ g. absurd (omega arith)) (λ g. absurd (omega arith)), tt)))

  below_11 : not_carried c (parameter_field p) ≡ false → not_carried c (number_field n) ≡ false → not_carried c (length_field len) ≡ false →
      (m : ℕ) → m < 11 → EachField (λ (f : EventField). at_fault m c f ≡ false) (fields p n len)
  below_11 e₁ e₂ e₃ m h =
      (no_fault m 11 _ _ (λ g. e₁) (λ g. absurd (omega arith)), (no_fault m 11 _ _ (λ g. e₂) (λ g. absurd (omega arith)), (no_fault m 12 _ _ (λ g. e₃) (λ g. absurd (omega arith)), tt)))

  -- by the six tests, in their order
  named : (u₁ u₂ u₃ v₁ v₂ v₃ : Bool) → not_carried c (parameter_field p) ≡ u₁ → not_carried c (number_field n) ≡ u₂ → not_carried c (length_field len) ≡ u₃ →
      out_of_range c (parameter_field p) ≡ v₁ → out_of_range c (number_field n) ≡ v₂ → out_of_range c (length_field len) ≡ v₃ →
      Named (cond u₁ (refused (Fault.NotCarried 5)) (cond u₂ (refused (Fault.NotCarried 6)) (cond u₃ (refused (Fault.NotCarried 10)) (cond v₁ (refused (Fault.OutOfRange 5)) (cond v₂ (refused (Fault.OutOfRange 6)) (cond v₃ (refused (Fault.Short 10)) passed))))))
  named true u₂ u₃ v₁ v₂ v₃ e₁ e₂ e₃ f₁ f₂ f₃ =
      record {
        there = inl (refl, rw e₁);
        earlier = ((λ h. absurd (omega arith)), ((λ h. absurd (omega arith)), ((λ h. absurd (omega arith)), tt)));
        lower = below_10;
      }
  named false true u₃ v₁ v₂ v₃ e₁ e₂ e₃ f₁ f₂ f₃ =
      record {
        there = inr (inl (refl, rw e₂));
        earlier = ((λ h. rw e₁), ((λ h. absurd (omega arith)), ((λ h. absurd (omega arith)), tt)));
        lower = below_10;
      }
  named false false true v₁ v₂ v₃ e₁ e₂ e₃ f₁ f₂ f₃ =
      record {
        there = inr (inr (inl (refl, rw e₃)));
        earlier = ((λ h. rw e₁), ((λ h. rw e₂), ((λ h. absurd (omega arith)), tt)));
        lower = below_10;
      }
  named false false false true v₂ v₃ e₁ e₂ e₃ f₁ f₂ f₃ =
      record {
        there = inl (refl, rw f₁);
        earlier = ((λ h. absurd (omega arith)), ((λ h. absurd (omega arith)), ((λ h. absurd (omega arith)), tt)));
        lower = below_11 e₁ e₂ e₃;
      }
  named false false false false true v₃ e₁ e₂ e₃ f₁ f₂ f₃ =
      record {
        there = inr (inl (refl, rw f₂));
        earlier = ((λ h. rw f₁), ((λ h. absurd (omega arith)), ((λ h. absurd (omega arith)), tt)));
        lower = below_11 e₁ e₂ e₃;
      }
  named false false false false false true e₁ e₂ e₃ f₁ f₂ f₃ =
      record {
        there = inr (inr (inl (refl, rw f₃)));
        earlier = ((λ h. no_fault 12 11 _ _ (λ g. e₁) (λ g. f₁)), ((λ h. no_fault 12 11 _ _ (λ g. e₂) (λ g. f₂)), ((λ h. absurd (omega arith)), tt)));
        lower = λ m h. (no_fault m 11 _ _ (λ g. e₁) (λ g. f₁), (no_fault m 11 _ _ (λ g. e₂) (λ g. f₂), (no_fault m 12 _ _ (λ g. e₃) (λ g. absurd (omega arith)), tt)));
      }
  named false false false false false false e₁ e₂ e₃ f₁ f₂ f₃ = tt

  pub named_by : Named (first (field_checks c (fields p n len)))
  named_by =
      named (not_carried c (parameter_field p)) (not_carried c (number_field n)) (not_carried c (length_field len)) (out_of_range c (parameter_field p)) (out_of_range c (number_field n)) (out_of_range c (length_field len)) refl refl refl refl refl refl

-- A NUMBER FROM 10 ON is that of a field: table, frame and code are sound, and the checks of the fields give it
record ByField (e : List ℕ) : Type 0 where
  fault : Fault
  sound : not (framed e) ≡ false
  known : unknown (coded_in e) ≡ false
  gives : first (field_checks (code_at e) (fields_in e)) ≡ refused fault

module _ (t e : List ℕ) (room : ℕ) where
  abbrev behind : List (Check Refusal)
  behind = drop 9 (checks t e room)

  low : (v : Verdict Refusal) → first behind ≡ v → number_in v ≤ 9
  low passed h = omega arith
  low (refused x) h = given (λ (y : Refusal). number y ≤ 9) behind (omega arith, (omega arith, (omega arith, (omega arith, (omega arith, tt))))) h

  by_tests : (a b d : Bool) (w : Verdict Fault) → bad_table t ≡ a → not (framed e) ≡ b → unknown (coded_in e) ≡ d → first (field_checks (code_at e) (fields_in e)) ≡ w →
      10 ≤ number_in (cond a (refused Refusal.Table) (cond b (refused Refusal.Frame) (cond d (refused Refusal.Code) (onward Refusal.Field w (first behind))))) → (bad_table t ≡ false) × ByField e
  by_tests true b d w p q r s h = absurd (omega arith)
  by_tests false true d w p q r s h = absurd (omega arith)
  by_tests false false true w p q r s h = absurd (omega arith)
  by_tests false false false passed p q r s h = absurd (omega (arith, low (first behind) refl))
  by_tests false false false (refused f) p q r s h = (p, record { fault = f; sound = q; known = r; gives = s })

  by_field : 10 ≤ number_in (first (checks t e room)) → (bad_table t ≡ false) × ByField e
  by_field h =
      by_tests (bad_table t) (not (framed e)) (unknown (coded_in e)) (first (field_checks (code_at e) (fields_in e))) refl refl refl refl
      (subst (λ (v : Verdict Refusal). 10 ≤ number_in (cond (bad_table t) (refused Refusal.Table) (cond (not (framed e)) (refused Refusal.Frame) (cond (unknown (coded_in e)) (refused Refusal.Code) v))))
      (field_checks_lem t e room) h)

  -- and so on every good table
  field_refuses : bad_table t ≡ false → (f : ByField e) → first (checks t e room) ≡ refused (Refusal.Field f.fault)
  field_refuses g f =
      rw (g, f.sound, f.known)
      (field_checks_lem t e room ∙ ap (λ (w : Verdict Fault). onward Refusal.Field w (first behind)) f.gives)

module _ (t e o : List ℕ) (h : 10 ≤ (step_call t e o).answer.refusal) where
  field_of : (bad_table t ≡ false) × ByField e
  field_of = by_field t e (length o) (subst (λ (n : ℕ). 10 ≤ n) (tells t e o (first (checks t e (length o))) refl).0 h)

  -- number and place on a good table, this one among them
  told_on : (u p : List ℕ) → bad_table u ≡ false → Tells (refused (Refusal.Field field_of.1.fault)) (step_call u e p)
  told_on u p g = tells u e p (refused (Refusal.Field field_of.1.fault)) (field_refuses u e (length p) g field_of.1)

pub field_named : FieldNamed
field_named t e o h =
    let f = (field_of t e o h).1 in
    let a = told_on t e o h t o (field_of t e o h).0 in
    subst (λ (n : ℕ). FirstAtFault n (step_call t e o).answer.place (code_at e) (fields_in e)) (sym a.0)
    (subst (λ (q : ℕ). FirstAtFault (fault_number f.fault) q (code_at e) (fields_in e)) (sym a.1)
    (subst (Named (code_at e) (param_at e) (number_at e) (length_at e)) f.gives (named_by (code_at e) (param_at e) (number_at e) (length_at e))))

pub of_the_event : OfTheEvent
of_the_event t e o u p h g =
    let a = told_on t e o h t o (field_of t e o h).0 in
    let b = told_on t e o h u p g in
    (b.0 ∙ sym a.0, b.1 ∙ sym a.1)

-- THE EARLIER REFUSALS

-- the two lists, from where they are one on
after : (a b d f g : Bool) →
    former_number (cond a (refused 5) (cond b (refused 6) (cond d (refused 7) (cond f (refused 8) (cond g (refused 9) passed)))))
    ≡ with4 (number_in (cond a (refused Refusal.Link) (cond b (refused Refusal.Record) (cond d (refused Refusal.Timer) (cond f (refused Refusal.Cell) (cond g (refused Refusal.Room) passed))))))
after true b d f g = refl
after false true d f g = refl
after false false true f g = refl
after false false false true g = refl
after false false false false true = refl
after false false false false false = refl

before : (a b d : Bool) (v : Verdict ℕ) (w : Verdict Refusal) → former_number v ≡ with4 (number_in w) →
    former_number (cond a (refused 1) (cond b (refused 2) (cond d (refused 3) v))) ≡ with4 (number_in (cond a (refused Refusal.Table) (cond b (refused Refusal.Frame) (cond d (refused Refusal.Code) w))))
before true b d v w h = refl
before false true d v w h = refl
before false false true v w h = refl
before false false false v w h = h

four : (f : Fault) → 4 ≡ with4 (fault_number f)
four (Fault.NotCarried q) = refl
four (Fault.OutOfRange q) = refl
four (Fault.Short q) = refl

-- what 4 came to, and what the fields come to now
here : (m : Bool) (w : Verdict Fault) (v : Verdict ℕ) (x : Verdict Refusal) → (w ≡ passed → m ≡ false) → (m ≡ false → w ≡ passed) → former_number v ≡ with4 (number_in x) →
    former_number (cond m (refused 4) v) ≡ with4 (number_in (onward Refusal.Field w x))
here true passed v x p q h = absurd (true≢false (p refl))
here false passed v x p q h = h
here true (refused f) v x p q h = four f
here false (refused f) v x p q h = let e = q refl in absurd (cc)

pub same_refusals : SameRefusals
same_refusals t e o =
    let room = length o in
    let s = same_misfits (code_at e) (param_at e) (number_at e) (length_at e) in
    before (bad_table t) (not (framed e)) (unknown (coded_in e)) (first (drop 3 (former_checks t e room))) (first (drop 3 (checks t e room)))
    (here (misfit (code_at e) (param_at e) (number_at e) (length_at e)) (first (field_checks (code_at e) (fields_in e))) (first (drop 4 (former_checks t e room))) (first (drop 9 (checks t e room))) s.0 s.1
    (after (leb (records t) (link_at e)) (not (well_formed (record_at t (link_at e)))) (idle (link_for t e) (code_at e)) (is_illegal (machine.step_of (link_for t e) (event_of e))) (ltb room output_octets))
    ∙ ap (λ (v : Verdict Refusal). with4 (number_in v)) (sym (field_checks_lem t e room)))
    ∙ ap with4 (sym (tells t e o (first (checks t e room)) refl).0)
