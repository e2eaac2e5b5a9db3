-- `burst::run` meets its contract: each turn makes one call more, and where it stops none is left.
use Rattle.std.proofs.Common.{◌≡◌, [], None, sym, ap, ◌∙◌, arith, rules}
use lib.ListN.{drop}
use Rattle.event.specs.EndToEnd.{frames}
use Rattle.step.specs.Plan.{told_by}
use Rattle.sscf.specs.Burst.{singly, broken_at}
use Rattle.sscf.proofs.Singles.{rest_is, Next, none_there, one_there, begins, ends, none_left, no_room_left, more, turn}
use Rattle.sscf.proofs.burst.run.Goals as goal
use Rattle.sscf.proofs.burst.run.Goals.{In-Some, else-loop-out-test, then-loop-out-test+in-None-1}

next : (c : In-Some) → Next c.args.events.now c.loop-out.at c.in-Some.size
next c = one_there _ _ _ c.loop-out.invariant.at_in c.in-Some.ensures

pub loop-out-init : goal.loop-out-init
loop-out-init c = begins _ _ _ _

pub slice_bounds-step-end : goal.slice_bounds-step-end
slice_bounds-step-end c = omega (arith, (next (goal.at.slice_bounds-step-end c).In-Some).inside)

pub bounds-list-taken : goal.bounds-list-taken
bounds-list-taken c =
    let r = c.loop-out.invariant in
    omega (arith, more r (next (goal.at.bounds-list-taken c).In-Some), r.same_l, c.requires.1)

pub loop-out-preserved : goal.loop-out-preserved
loop-out-preserved c =
    let s = c.step-told in
    rw (c.refusal.ensures, c.octets.ensures, c.signals.ensures)
    (turn c.loop-out.invariant (next (goal.at.loop-out-preserved c).In-Some) c.loop-out-test.true c.requires.1 (told_by s.result.number) s.new.table s.new.out s.ensures)

pub returns : goal.returns
returns c =
    let l = c.loop-out in
    let es = c.args.events.now in
    let none_more : singly (frames (drop l.at es)) l.table (drop l.put l.out) ≡ [] =
    elim c.loop-out-test.branch [
      | else-loop-out-test w ↦ no_room_left l.invariant (omega (arith, w.loop-out-test.false))
      | then-loop-out-test+in-None-1 w ↦
          let none : w.front.result ≡ None = search rules in
          none_left (drop l.at es) l.table (drop l.put l.out) (none_there es l.at (sym none ∙ w.front.ensures))
    ] in
    ends l.invariant c.broken.result none_more (c.broken.ensures ∙ ap broken_at (rest_is es l.at))
