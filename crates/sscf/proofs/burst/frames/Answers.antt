-- `burst::frames` meets its contract: a sound frame lies within the events, and those behind it are one fewer.
use Rattle.std.proofs.Common.{ap, arith}
use lib.ListN.{length, drop}
use Rattle.sscf.proofs.Singles.{Next, none_there, one_there, no_frame}
use Rattle.sscf.proofs.burst.frames.Goals as goal

next : (c : goal.In-Some) → Next c.args.events.now c.loop-size.at c.in-Some.size
next c = one_there _ _ _ c.loop-size.invariant.0 c.in-Some.ensures

pub loop-size-smaller : goal.loop-size-smaller
loop-size-smaller c = let x = next c in omega (arith, x.inside, x.size)

pub loop-size-preserved : goal.loop-size-preserved
loop-size-preserved c =
    let l = c.loop-size in
    let x = next c in
    (x.inside, omega (arith, l.invariant.1, x.fewer), omega (arith, l.invariant.2, x.size))

pub returns : goal.returns
returns c =
    let l = c.loop-size in
    let es = c.args.events.now in
    omega (arith, l.invariant.1, ap length (no_frame (drop l.at es) (none_there es l.at c.in_default.ensures)))
