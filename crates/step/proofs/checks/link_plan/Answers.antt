-- `checks::link_plan` meets its contract: the checks go by cases, as the code.
use mathlib.Core.Path.{◌≡◌, refl, sym, ap, subst, ◌∙◌}
use mathlib.Core.Bool.{false}
use mathlib.Core.List.{List}
use Prim.Native.Nat.{ℕ}
use native.Mathlib.Omega.{arith}
use lib.Dec.{leb}
use lib.ListN.{length, drop}
use borrow.Author.Tests.{leb-false, lt-leb, lt-ltb, le-ltb, eq-eqb}
use Rattle.std.proofs.Common.{Option, Some, None, Ok, Err}
use Rattle.std.specs.Option.{ok_or}
use Rattle.std.proofs.lemmas.Result.{err_from_is_err_and}
use Rattle.unit.specs.Checks.{first}
use Rattle.link.specs.Step as machine
use Rattle.link.specs.declared.Link.{Link}
use Rattle.link.specs.declared.Num.{Num}
use Rattle.link.specs.declared.Said.{Said}
use Rattle.link.specs.Stored.{view_of, number_in, Noted, given_by, signals_of}
use Rattle.link.specs.Lent.{Turned}
use Rattle.link.proofs.Lent.{was_illegal, was_legal, was_noted}
use Rattle.record.specs.LinkRecord.{well_formed, slot_of}
use Rattle.event.specs.Frame.{link_at, code_at, param_at, number_at}
use Rattle.record.proofs.LinkRecord.{SlotTold, slot_tells}
use Rattle.event.specs.EventRecord.{carried, carrying, event_of}
use Rattle.event.proofs.EventRecord.{reading_tells, fits_seen}
use Rattle.signal.specs.Writing.{given}
use Rattle.step.specs.declared.Refusal.{Refusal}
use Rattle.step.specs.Step.{records, record_at, link_for, checks}
use Rattle.step.proofs.Places.{record_length, whole}
use Rattle.step.proofs.checks.link_plan.Goals as goal
use Rattle.step.proofs.checks.link_plan.Goals.{After-slot_at, After-step_plain-turn}

-- PAST CHECK 5: a good table is whole records, and the named record is among them
inside : (c : After-slot_at) → leb (records c.args.t.now) (link_at c.args.e.now) ≡ false
inside c = lt-leb _ _ (omega (arith, c.link-k.ensures, whole c.args.t.now c.requires.2))

-- what the reading of it told
told : (c : After-slot_at) {s : Option Link} → c.slot_at.result ≡ s → SlotTold (record_at c.args.t.now (link_at c.args.e.now)) s
told c h =
    let r = record_at c.args.t.now in
    subst (SlotTold (r (link_at c.args.e.now))) h
    (slot_tells (r (link_at c.args.e.now)) c.slot_at.result (c.slot_at.ensures ∙ ap (λ (k : ℕ). slot_of (r k)) c.link-k.ensures))

ill_formed : (c : After-slot_at) → c.slot_at.result ≡ None → well_formed (record_at c.args.t.now (link_at c.args.e.now)) ≡ false
ill_formed c h =
    let n : length (record_at c.args.t.now (link_at c.args.e.now)) ≡ 20 = record_length _ _ (leb-false _ _ (inside c)) in
    rw (eq-eqb _ _ n) at (told c h)

-- what a refusal in the place of none is
in_its_place : {A : Type 0} {o : Option A} {x r : Refusal} → Err x ≡ ok_or o r → o ≡ None → x ≡ r
in_its_place h n = let k = rw n at h in cc

-- PAST CHECK 7
module _ (c : After-step_plain-turn) where
  abbrev t : List ℕ
  t = c.args.t.now

  abbrev e : List ℕ
  e = c.args.e.now

  abbrev next : Link
  next = c.step_plain-turn.result.link

  holds : SlotTold (record_at t (link_at e)) (Some c.in_ok-l.l)
  holds = told ((goal.at-After-step_plain-turn c).After-slot_at) c.in_ok-l.ensures.ok_part

  left : first (drop 9 (checks t e c.args.room)) ≡ first (drop 12 (checks t e c.args.room))
  left = rw (inside ((goal.at-After-step_plain-turn c).After-slot_at), holds.0, holds.1, sym c.idle.ensures ∙ c.if-idle.false)

  -- what the step left and said, of the record and the event that the octets hold
  turned : {r : Option Said} → c.step_plain-turn.result.said ≡ r → Turned (link_for t e) (event_of e) (machine.step_of (link_for t e) (event_of e)) next r
  turned {r} h = rw (holds.1, ← c.event.ensures, ← h) c.step_plain-turn.ensures

  -- the parameter and the number that the step saw are those in the event's octets
  seen_so : let v = view_of (event_of e) (link_for t e).c1 in carrying (carried (event_of e)).code v.1 (number_in v) ≡ carrying (code_at e) (param_at e) (number_at e)
  seen_so = fits_seen e (reading_tells e (Ok tt) (sym c.requires.1)) (link_for t e).c1

  illegal : c.step_plain-turn.result.said ≡ None → machine.step_of (link_for t e) (event_of e) ≡ machine.Illegal
  illegal h = was_illegal (link_for t e) (event_of e) next (machine.step_of (link_for t e) (event_of e)) refl (turned h)

  module _ {s : Said} (h : c.step_plain-turn.result.said ≡ Some s) where
    legal : machine.step_of (link_for t e) (event_of e) ≡ machine.Legal next (signals_of s.count s.words (given next e))
    legal =
        was_legal (link_for t e) (event_of e) next (machine.step_of (link_for t e) (event_of e)) refl (turned h)
        ∙ (λ i. machine.Legal next (signals_of s.count s.words (given_by (seen_so i).param (seen_so i).num next)))

    -- and what is noted of it
    noted : Noted (link_for t e) (number_at e) next s.noted s.sent
    noted = subst (λ (n : Num). Noted (link_for t e) n next s.noted s.sent) (λ i. (seen_so i).num) (was_noted (link_for t e) (event_of e) next refl (turned h))

pub returns-in_err-l : goal.returns-in_err-l
returns-in_err-l c =
    let p = err_from_is_err_and c.from_residual.result c.from_residual.ensures.1 in
    let q = (goal.at.returns-in_err-l c).After-slot_at in
    let l = c.in_err-l.ensures in
    rw (p.1, p.2, in_its_place l.value l.ok_part, inside q, ill_formed q l.ok_part)

pub returns-then-idle : goal.returns-then-idle
returns-then-idle c =
    let p = (goal.at.returns-then-idle c).After-slot_at in
    let h = told p c.in_ok-l.ensures.ok_part in
    rw (inside p, h.0, h.1, sym c.idle.ensures ∙ c.if-idle.true)

pub returns-in_err-said : goal.returns-in_err-said
returns-in_err-said c =
    let p = err_from_is_err_and c.from_residual-in_err-said.result c.from_residual-in_err-said.ensures.1 in
    let q = (goal.at.returns-in_err-said c).After-step_plain-turn in
    let s = c.in_err-said.ensures in
    rw (p.1, p.2, in_its_place s.value s.ok_part) (left q ∙ rw (illegal q s.ok_part))

pub returns-then-room-lt-ROOM : goal.returns-then-room-lt-ROOM
returns-then-room-lt-ROOM c =
    let q = (goal.at.returns-then-room-lt-ROOM c).After-step_plain-turn in
    left q ∙ rw (legal q c.in_ok-said.ensures.ok_part, lt-ltb _ _ c.if-room-lt-ROOM.true)

pub returns : goal.returns
returns c =
    let q = (goal.at.returns c).After-step_plain-turn in
    let m = legal q c.in_ok-said.ensures.ok_part in
    (left q ∙ rw (m, le-ltb _ _ c.if-room-lt-ROOM.false), c.link-k.ensures, m, noted q c.in_ok-said.ensures.ok_part)
