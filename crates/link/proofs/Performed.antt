-- The step is Table 6 performed: a summary does what its actions do, one by one, and a view shows the meeting that the event is. Assumes nothing.
use mathlib.Core.Path.{◌≡◌, refl, sym, ap, subst, ◌∙◌}
use mathlib.Core.Bool.{Bool, true, false, cond, not, ◌&&◌, false≢true}
use mathlib.Core.List.{List, [], ◌∷◌, ◌++◌, map}
use Prim.Native.Nat.{ℕ}
use lib.Dec.{eqb}
use Rattle.std.proofs.lemmas.List.{map-append}
use Rattle.unit.specs.declared.Arrived.{Arrived}
use Rattle.table6.specs.declared.State.{State}
use Rattle.table6.specs.Words.{2/4/2, 2/10/3, is-2/10/3}
use Rattle.table6.specs.Cell.{T1, Told, Done, Act, tell, alter, cell, Choice, illegal, does, chosen}
use Rattle.table6.specs.Order.{signals}
use Rattle.table6.specs.Summary.{over, Summary, still, then_told, then_done, then, summary, Summed, refused, summed, sum}
use Rattle.table6.specs.Rows.{Heading, Local-Congestion, heading, printed}
use Rattle.table6.specs.Stored.{met, gives_up, goes_on}
use Rattle.table6.proofs.Unfolded.{every_row}
use Rattle.table6.proofs.Every.{left, right}
use Rattle.link.specs.declared.Num.{Num}
use Rattle.link.specs.declared.Link.{Link}
use Rattle.link.specs.declared.Event.{Event}
use Rattle.link.specs.declared.Event.TheVariants as event
use Rattle.link.specs.declared.View.{View}
use Rattle.link.specs.declared.Signal.{Signal}
use Rattle.link.specs.Effect.{with_state, with_congested, telling, altering, effect, performed}
use Rattle.link.specs.Signal.{signal_of}
use Rattle.link.specs.Step.{Meeting, meets, meeting, facts, Outcome, Illegal, Legal, outcome, at_meeting, behind_these, onward, step_of}
use Rattle.link.specs.Stored.{view_of, meeting_of, facts_of, summed_up}

-- SUMMARIES

one_told : (a : Told) (s : Summary) (p : ℕ) (n : Num) (l : Link) → telling a p l (summed_up s p n l) ≡ summed_up (then_told a s) p n l
one_told (Told.Set T1) s p n l = refl
one_told (Told.Reset T1) s p n l = refl
one_told a s p n l = refl

one_done : (a : Done) (s : Summary) (p : ℕ) (n : Num) (l : Link) → altering a p n l (summed_up s p n l) ≡ summed_up (then_done a s) p n l
one_done (Done.end T1) s p n l = refl
one_done a s p n l = refl

one_act : (a : Act) (s : Summary) (p : ℕ) (n : Num) (l : Link) → effect a p n l (summed_up s p n l) ≡ summed_up (then a s) p n l
one_act (tell a) s p n l = one_told a s p n l
one_act (alter a) s p n l = one_done a s p n l

all_acts : (acts : List Act) (s : Summary) (p : ℕ) (n : Num) (l : Link) → performed acts p n l (summed_up s p n l) ≡ summed_up (summary acts s) p n l
all_acts [] s p n l = refl
all_acts (a ∷ acts) s p n l = ap (performed acts p n l) (one_act a s p n l) ∙ all_acts acts (then a s) p n l

-- an outcome from a summed-up cell
abbrev pub outcome_of : Link → Meeting → Summed → Outcome
outcome_of l m refused = Illegal
outcome_of l m (summed s says next) =
    Legal (with_state next (summed_up s m.param m.number l)) (map (signal_of m.param m.number l.mps l.ups l.bsnt.num) says)

as_performed : (l : Link) (m : Meeting) (x : Choice) → outcome_of l m (sum m.heading.arrives x) ≡ outcome l m x
as_performed l m illegal = refl
as_performed l m (does acts next) =
    ap (λ (k : Link). Legal (with_state next k) (map (signal_of m.param m.number l.mps l.ups l.bsnt.num) (signals acts)))
    (sym (all_acts (m.heading.arrives ++ acts) still m.param m.number l))

-- VIEWS

shown_t3 : (b : Bool) → heading (cond b 34 33) ≡ cond b (heading 34) (heading 33)
shown_t3 true = refl
shown_t3 false = refl

shown : (e : Event) (c1 : ℕ) → meeting_of (view_of e c1) ≡ meeting e c1
shown (event.Data Arrived.INS n) c1 = refl
shown event.T3 c1 = ap (λ (h : Heading). meets h) (shown_t3 (eqb c1 0))
shown e c1 = refl

-- THE STEP

met_there : (l : Link) (v : View) → outcome_of l (meeting_of v) (met v.0 l.state (facts_of l v)) ≡ at_meeting l (meeting_of v)
unfolding met
met_there l v = as_performed l (meeting_of v) (chosen (facts l (meeting_of v)) (cell (printed (facts l (meeting_of v)) (heading v.0).row) l.state))

-- CONGESTION BEHIND IT

-- In 2/10/3 congestion does what `gives_up` says, and its signals take nothing: the flag was set already.
gives_up_lem : (s : Summary) (p : ℕ) (n : Num) (l : Link) → over s.congested l.congested ≡ true →
    at_meeting (with_state 2/10/3 (summed_up s p n l)) (meets Local-Congestion)
    ≡ Legal (with_state 2/4/2 (summed_up (summary gives_up s) p n l)) (map (signal_of p n l.mps l.ups l.bsnt.num) (signals gives_up))
unfolding every_row
gives_up_lem s p n l e =
    ap (λ (b : Bool). Legal (with_congested b (with_state 2/4/2 (summed_up (summary gives_up s) p n l))) (map (signal_of p n l.mps l.ups l.bsnt.num) (signals gives_up))) (sym e)

is_so : (x : State) → is-2/10/3 x ≡ true → x ≡ 2/10/3
is_so State.S2103 e = refl
is_so x e = absurd (false≢true e)

-- what goes on does so in its summary
pub onward_summed : (l : Link) (m : Meeting) (x : Summed) → onward l (outcome_of l m x) ≡ outcome_of l m (goes_on l.congested l.state x)
onward_summed l m refused = refl
onward_summed l m (summed s says next) =
    by (not (is-2/10/3 l.state) && (is-2/10/3 next && over s.congested l.congested)) refl where
      tell_all : Told → Signal
      tell_all = signal_of m.param m.number l.mps l.ups l.bsnt.num

      left_there : State → Link
      left_there x = with_state x (summed_up s m.param m.number l)

      by : (z : Bool) → not (is-2/10/3 l.state) && (is-2/10/3 next && over s.congested l.congested) ≡ z →
          cond z (behind_these (map tell_all says) (at_meeting (left_there next) (meets Local-Congestion))) (Legal (left_there next) (map tell_all says))
          ≡ outcome_of l m (cond z (summed (summary gives_up s) (says ++ signals gives_up) 2/4/2) (summed s says next))
      by false e = refl
      by true e =
          let t : is-2/10/3 next && over s.congested l.congested ≡ true = right (not (is-2/10/3 l.state)) _ e in
          ap (λ (x : State). behind_these (map tell_all says) (at_meeting (left_there x) (meets Local-Congestion))) (is_so next (left (is-2/10/3 next) _ t))
          ∙ ap (behind_these (map tell_all says)) (gives_up_lem s m.param m.number l (right (is-2/10/3 next) _ t))
          ∙ ap (Legal (with_state 2/4/2 (summed_up (summary gives_up s) m.param m.number l))) (sym (map-append tell_all says (signals gives_up)))

-- what an event does, from the summed-up cell that its view meets
pub as_met : (l : Link) (e : Event) →
    outcome_of l (meeting_of (view_of e l.c1)) (goes_on l.congested l.state (met (view_of e l.c1).0 l.state (facts_of l (view_of e l.c1)))) ≡ step_of l e
unfolding step_of
as_met l e =
    let v = view_of e l.c1 in
    sym (onward_summed l (meeting_of v) (met v.0 l.state (facts_of l v))) ∙ ap (onward l) (met_there l v ∙ ap (at_meeting l) (shown e l.c1))

-- what the facts choose in the cell that a view meets
abbrev pub choice_of : Link → View → Choice
choice_of l v = chosen (facts_of l v) (cell (printed (facts_of l v) (heading v.0).row) l.state)

-- what holds of that choice, summed up, and of what it goes on with, holds of the step
pub by_choice : (P : Outcome → Type 0) (l : Link) (e : Event) →
    let v = view_of e l.c1 in
    P (outcome_of l (meeting_of v) (goes_on l.congested l.state (sum (heading v.0).arrives (choice_of l v)))) → P (step_of l e)
unfolding met
by_choice P l e p = subst P (as_met l e) p
