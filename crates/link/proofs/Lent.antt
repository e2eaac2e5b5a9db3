-- An outcome told from what it left and what it said: what a caller of a step learns. Assumes nothing.
use mathlib.Core.Path.{◌≡◌, refl, sym, ap, subst, ◌∙◌}
use mathlib.Core.List.{List, []}
use Rattle.std.specs.Prelude.{Option, Some, None}
use Rattle.unit.specs.Answered.{Answered, refused, accepted}
use Rattle.link.specs.declared.Link.{Link}
use Rattle.link.specs.declared.Event.{Event}
use Rattle.link.specs.declared.Signal.{Signal}
use Rattle.link.specs.declared.Said.{Said}
use Rattle.link.specs.Step.{Outcome, Illegal, Legal}
use Rattle.link.specs.Stored.{view_of, number_in, Noted, given_by, signals_of}
use Rattle.link.specs.Lent.{replied, Notes, Turned}

abbrev IsAccepted : Answered (List Signal) → Type 0
IsAccepted (refused n) = ⊥
IsAccepted (accepted x) = Unit {0}

abbrev signals : Answered (List Signal) → List Signal
signals (refused n) = []
signals (accepted x) = x

module _ (l : Link) (x : Event) (k : Link) where
  abbrev stands : Option Said → Answered (List Signal)
  stands = replied (view_of x l.c1) k

  pub was_illegal : (o : Outcome) {r : Option Said} → r ≡ None → Turned l x o k r → o ≡ Illegal
  was_illegal Illegal e t = refl
  was_illegal (Legal next ss) e t = absurd (subst IsAccepted (sym t.said ∙ ap stands e) tt)

  pub was_legal : (o : Outcome) {r : Option Said} {s : Said} → r ≡ Some s → Turned l x o k r →
      let v = view_of x l.c1 in o ≡ Legal k (signals_of s.count s.words (given_by v.1 (number_in v) k))
  was_legal Illegal e t = absurd (subst IsAccepted (ap stands (sym e) ∙ t.said) tt)
  was_legal (Legal next ss) e t =
      let same = ap signals (sym t.said ∙ ap stands e) in
      λ i. Legal (sym t.left i) (same i)

  pub was_noted : {o : Outcome} {r : Option Said} {s : Said} → r ≡ Some s → Turned l x o k r → Noted l (number_in (view_of x l.c1)) k s.noted s.sent
  was_noted e t = subst (Notes l (view_of x l.c1) k) e t.notes
