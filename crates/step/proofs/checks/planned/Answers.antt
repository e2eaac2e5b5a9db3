-- `checks::planned` meets its contract: what the reading of the event told decides, and else the checks that are left.
use mathlib.Core.Path.{◌≡◌, sym, ap, ◌∙◌}
use mathlib.Core.List.{List}
use Prim.Native.Nat.{ℕ}
use lib.ListN.{drop}
use Rattle.std.proofs.Common.{Result, Ok, Err}
use Rattle.std.proofs.lemmas.Result.{err_from_is_err_and}
use Rattle.unit.specs.Checks.{Check, Verdict, refused, first}
use Rattle.unit.proofs.Checks.{onward}
use Rattle.event.specs.declared.Fault.{Fault}
use Rattle.event.specs.declared.Unread.{Unread}
use Rattle.event.specs.Frame.{EV, code_at}
use Rattle.event.specs.Fields.{field_checks}
use Rattle.event.specs.EventRecord.{fields_in}
use Rattle.event.proofs.Frame.{sound}
use Rattle.event.proofs.EventRecord.{ToldOf, reading_tells}
use Rattle.step.specs.declared.checks.Plan.{Plan}
use Rattle.step.specs.declared.Refusal.{Refusal}
use Rattle.step.specs.Checks.{refusal_of}
use Rattle.step.specs.Step.{checks}
use Rattle.step.specs.Plan.{Planned}
use Rattle.step.proofs.Taken.{field_checks_lem}
use Rattle.step.proofs.checks.planned.Goals as goal

-- by what the fields came to
decided : (t e : List ℕ) (room : ℕ) {v : Verdict Fault} → first (field_checks (code_at e) (fields_in e)) ≡ v → first (drop 3 (checks t e room)) ≡ onward Refusal.Field v (first (drop 9 (checks t e room)))
decided t e room h = field_checks_lem t e room ∙ ap (λ (w : Verdict Fault). onward Refusal.Field w (first (drop 9 (checks t e room)))) h

-- an event that could not be read is refused
unread : (t e : List ℕ) (room : ℕ) (u : Unread) → ToldOf e (Err u) → first (drop 1 (checks t e room)) ≡ refused (refusal_of u)
unread t e room Unread.BadFrame h = rw h
unread t e room Unread.UnknownCode h = rw (h.0, h.1)
unread t e room (Unread.Misfit f) h = rw (h.0, h.1) (decided t e room h.2)

-- past some checks those that are left decide
left : (cs ds : List (Check Refusal)) (t e : List ℕ) (r : Result Plan Refusal) → first cs ≡ first ds → Planned ds t e r → Planned cs t e r
left cs ds t e (Err x) h p = h ∙ p
left cs ds t e (Ok p) h q = (h ∙ q.0, q.1, q.2, q.3)

pub returns-in_err-read_event : goal.returns-in_err-read_event
returns-in_err-read_event c =
    let p = err_from_is_err_and c.from_residual.result c.from_residual.ensures.1 in
    let u = c.in_err-read_event.field-0.0 in
    rw (p.1, p.2) (unread c.args.t.now c.args.e.now c.args.room u (reading_tells c.args.e.now (Err u) c.in_err-read_event.ensures))

pub link_plan-requires : goal.link_plan-requires
link_plan-requires c =
    let h = reading_tells c.args.e.now (Ok tt) c.in_ok-read_event.ensures in
    ((sound EV _ h.0).twelve, sym c.in_ok-read_event.ensures, c.requires)

pub returns : goal.returns
returns c =
    let a = c.args in
    let h = reading_tells a.e.now (Ok tt) c.in_ok-read_event.ensures in
    let cs = checks a.t.now a.e.now a.room in
    left (drop 1 cs) (drop 9 cs) a.t.now a.e.now c.link_plan.result (rw (h.0, h.1) (decided a.t.now a.e.now a.room h.2)) c.link_plan.ensures
