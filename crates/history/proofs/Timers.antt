-- In which states T1 and T2 run: ONE TEST OVER TABLE 6, computed, and what follows of every sequence of calls. Assumes nothing.
use mathlib.Core.Path.{◌≡◌, refl, sym, ap, subst, ◌∙◌}
use mathlib.Core.Bool.{◌&&◌, beq}
use mathlib.Core.List.{List}
use Prim.Native.Nat.{ℕ}
use Rattle.table6.specs.Summary.{over}
use Rattle.table6.proofs.Every.{left, right}
use Rattle.table6.proofs.Unfolded.{every_row}
use Rattle.link.specs.declared.Link.{Link}
use Rattle.link.specs.declared.Event.{Event}
use Rattle.link.specs.Step.{Outcome, Illegal, Legal, step_of}
use Rattle.record.specs.LinkRecord.{link_of}
use Rattle.record.proofs.LinkRecord.{unpacked}
use Rattle.event.specs.EventRecord.{event_of}
use Rattle.history.specs.Calls.{AfterEachCall}
use Rattle.history.specs.History.{Mark}
use Rattle.history.specs.Pics.{link_in, T1-runs, T2-runs}
use Rattle.history.proofs.Table.{Asks, onward, Passes, by_test}
use Rattle.history.proofs.Calls.{Keeps, Invariant, after_each_call}
use Rattle.history.proofs.Step.{beq_eq}

-- THE TEST: what becomes of the record leads from what runs in a state to what runs in the next
abbrev keeps : Asks
keeps s st flag r says next = beq (over r.t1 (T1-runs st)) (T1-runs next) && beq (over r.t2 (T2-runs st)) (T2-runs next)

table_keeps : Passes (onward keeps)
unfolding every_row
table_keeps = refl

-- OF A LINK, AND OF A STEP
pub record Timed (l : Link) : Type 0 where
  pub t1 : l.t1 ≡ T1-runs l.state
  pub t2 : l.t2 ≡ T2-runs l.state

abbrev Timed? : Outcome → Type 0
Timed? Illegal = Unit {0}
Timed? (Legal l said) = Timed l

of_step : (l : Link) → Timed l → (e : Event) → Timed? (step_of l e)
of_step l v e =
    by_test keeps table_keeps Timed? l e tt
    (λ r says next h.
    let a = beq (over r.t1 (T1-runs l.state)) (T1-runs next) in
    let b = beq (over r.t2 (T2-runs l.state)) (T2-runs next) in
    record {
      t1 = ap (over r.t1) v.t1 ∙ beq_eq (over r.t1 (T1-runs l.state)) (T1-runs next) (left a b h);
      t2 = ap (over r.t2) v.t2 ∙ beq_eq (over r.t2 (T2-runs l.state)) (T2-runs next) (right a b h);
    })

-- OF EVERY LINK, AFTER EVERY SEQUENCE OF CALLS
abbrev TimedIn : ℕ → Link → List Mark → Type 0
TimedIn n1 l h = Timed l

so_kept : (n1 : ℕ) (h : List Mark) (e : List ℕ) (o : Outcome) → Timed? o → Keeps TimedIn n1 h e o
so_kept n1 h e Illegal t = tt
so_kept n1 h e (Legal l said) t = t

timed_always : Invariant TimedIn
timed_always = record { begins = λ n1. record { t1 = refl; t2 = refl }; goes_on = λ n1 l h v e p. so_kept n1 h e (step_of l (event_of e)) (of_step l v (event_of e)) }

pub timed_each : AfterEachCall (λ w k. Timed (link_in w k))
timed_each = after_each_call TimedIn timed_always (λ w k. Timed (link_in w k)) (λ w k v. subst Timed (sym (ap link_of v.octets ∙ unpacked v.link)) v.inv)
