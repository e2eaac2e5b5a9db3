-- No second answer fits, of each function that other crates can call, and of the two forms of the step below it. The record that a step leaves is fixed whole,
-- and the reply in what it stands for. Assumes nothing.
use mathlib.Core.Path.{◌≡◌}
use mathlib.Core.List.{List}
use Rattle.std.specs.Prelude.{Option}
use base.Logic.{SProp, sep, fst∗, snd∗}
use contract.Monad.{fact_i, fact_use}
use Rattle.unit.specs.Answered.{Answered}
use Rattle.unit.specs.OneAnswer.{OneReading, OneAnswer, OneHeld}
use Rattle.unit.proofs.OneAnswer.{equal}
use Rattle.link.specs.declared.Link.{Link}
use Rattle.link.specs.declared.Signal.{Signal}
use Rattle.link.specs.declared.Said.{Said}
use Rattle.link.specs.declared.Event.{Event}
use Rattle.link.specs.Step.{Outcome}
use Rattle.link.specs.Stored.{view_of}
use Rattle.link.specs.Lent.{replied, Turned}
use Rattle.link.proofs.fresh.Kinds as fresh-kinds
use Rattle.link.proofs.fresh.Reads as fresh
use Rattle.link.proofs.step.Kinds as step-kinds
use Rattle.link.proofs.step.Reads as step
use Rattle.link.specs.contracts.step_lent as step-lent
use Rattle.link.proofs.step_plain.Kinds as step-plain-kinds
use Rattle.link.proofs.step_plain.Reads as step-plain
use Rattle.link.proofs.field_sent.Kinds as field-sent-kinds
use Rattle.link.proofs.field_sent.Reads as field-sent
use Rattle.link.proofs.NotePartialEq.eq.Kinds as note-eq-kinds
use Rattle.link.proofs.NotePartialEq.eq.Reads as note-eq

pub fresh_one : OneAnswer fresh-kinds.ps fresh-kinds.r fresh.Post
fresh_one κs arguments x y e f = equal

abbrev Both : Type 0
Both = Link × Answered (List Signal)

-- the record that an event leaves of a link, and what the reply stands for
abbrev both : Link → Event → Link → Option Said → Both
both l e k r = (k, replied (view_of e l.c1) k r)

one_turn : {l : Link} {e : Event} {o : Outcome} {k m : Link} {r s : Option Said} → Turned l e o k r → Turned l e o m s → both l e k r ≡ both l e m s
one_turn p q = λ i. (equal p.left q.left i, equal p.said q.said i)

pub step_one : OneReading step-kinds.ps step-kinds.r Both (λ κs arguments x e. both arguments.0 arguments.1.0 x.link x.said) step.Post
step_one κs arguments x y e f = one_turn

pub step_lent_one : OneHeld step-lent.ended Both (λ κs arguments r e. both arguments.0.now arguments.1.0 e.0.now r) (λ M 𝓤 𝓛 mem run. step-lent.clauses 𝓛 mem run)
step_lent_one M 𝓤 𝓛 mem run κs a g r s e f =
    let L : SProp 𝓤 = (step-lent.clauses 𝓛 mem run κs a).ensures g r e in
    let R : SProp 𝓤 = (step-lent.clauses 𝓛 mem run κs a).ensures g s f in
    fact_use 𝓤 _ (fst∗ 𝓤 L R) (λ p. fact_use 𝓤 _ (snd∗ 𝓤 L R) (λ q. fact_i 𝓤 _ (sep 𝓤 L R) (one_turn p q)))

pub step_plain_one : OneReading step-plain-kinds.ps step-plain-kinds.r Both (λ κs arguments x e. both arguments.0 arguments.1.0 x.link x.said) step-plain.Post
step_plain_one κs arguments x y e f = one_turn

pub field_sent_one : OneAnswer field-sent-kinds.ps field-sent-kinds.r field-sent.Post
field_sent_one κs arguments x y e f = equal

-- of the derived comparison
pub note_eq_one : OneAnswer note-eq-kinds.ps note-eq-kinds.r note-eq.Post
note_eq_one κs arguments x y e f = equal
