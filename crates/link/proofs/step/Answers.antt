-- `link::step` meets its contract. Assumes nothing.
use Rattle.std.proofs.Common.{◌≡◌, cond, refl, subst, Option, Some, None}
use Rattle.table6.specs.declared.Does.{Does}
use Rattle.table6.specs.declared.Facts.{Facts}
use Rattle.table6.specs.Stored.{sent_by, word_count, met_as, met, goes_on}
use Rattle.link.specs.declared.Link.{Link}
use Rattle.link.specs.declared.Event.{Event}
use Rattle.link.specs.declared.View.{View}
use Rattle.link.specs.declared.Note.{Note}
use Rattle.link.specs.declared.Said.{Said}
use Rattle.link.specs.Step.{Outcome, step_of}
use Rattle.link.specs.Stored.{view_of, facts_of, arrived_of, noted_of}
use Rattle.link.specs.Lent.{Turned}
use Rattle.link.proofs.Arrivals.{Met-so, left_of, acted, turned_down}
use Rattle.link.proofs.Noting.{noting}
use Rattle.link.proofs.step.Goals as goal

-- what the code met, in the words of the definitions
met_so : (l : Link) (e : Event) (r : Option Does) {v : View} {a : Link} {f : Facts} → v ≡ view_of e l.c1 → a ≡ arrived_of (view_of e l.c1) l → f ≡ facts_of a v →
    met_as v.0 l.state r ≡ goes_on l.congested l.state (met v.0 l.state f) →
    let w = view_of e l.c1 in
    met_as w.0 l.state r ≡ goes_on l.congested l.state (met w.0 l.state (facts_of (arrived_of w l) w))
met_so l e r pv pa pf h = cc

-- what is said of an event that does this
abbrev said_of : Event → Does → Said
said_of e d = record { words = d.words; count = word_count d.number; noted = cond d.up Note.Forgotten (noted_of e); sent = sent_by d.number }

turned : (l : Link) (e : Event) (d : Does) → let v = view_of e l.c1 in Met-so l v d → Turned l e (step_of l e) (left_of l v d) (Some (said_of e d))
turned l e d h =
    let v = view_of e l.c1 in
    subst (λ (o : Outcome). Turned l e o (left_of l v d) (Some (said_of e d))) (acted l e d h) record { left = refl; said = refl; notes = noting l e d h }

pub returns-in-None : goal.returns-in-None
returns-in-None c =
    let l = c.args.l in
    let e = c.args.e in
    subst (λ (o : Outcome). Turned l e o l None)
    (turned_down l e (met_so l e None c.view_of-v.ensures c.arrived-a.ensures c.facts_of-f.ensures c.in-None.ensures.0))
    record { left = refl; said = refl; notes = tt }

pub returns-in-Some : goal.returns-in-Some
returns-in-Some c =
    let l = c.args.l in
    let e = c.args.e in
    let d = c.in-Some.field-0 in
    let v = c.view_of-v.ensures in
    let a = c.arrived-a.ensures in
    rw (c.applied.ensures, c.count.ensures, c.sent.ensures, c.raised-k.ensures.0, c.raised-k.ensures.1, c.noted-note.ensures, a, v)
    (turned l e d (met_so l e (Some d) v a c.facts_of-f.ensures c.in-Some.ensures.0))
