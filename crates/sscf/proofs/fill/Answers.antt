-- `fill` meets its contract: each turn writes one copy more, in front of those behind it.
use mathlib.Core.Path.{◌≡◌, ap, ◌∙◌}
use mathlib.Core.List.{List}
use Prim.Native.Nat.{ℕ, ◌-◌, ◌%◌, ◌≤◌, ◌<◌}
use native.Mathlib.Omega.{arith}
use lib.ListN.{length}
use Rattle.octet.specs.Octets.{put_at}
use Rattle.octet.proofs.Over.{length_put}
use Rattle.sscf.proofs.Copies.{filled, none_yet, one_copy_more, all_copies}
use Rattle.sscf.proofs.fill.Goals as goal

-- a record has place before a record's end
place : (at : ℕ) → at % 20 ≡ 0 → 0 < at → 20 ≤ at
place at f h = omega arith

pub loop-at-init : goal.loop-at-init
loop-at-init c = (none_yet c.args.r.now c.args.table.now, c.requires, omega arith, omega arith)

pub loop-at-preserved : goal.loop-at-preserved
loop-at-preserved c =
    let t = c.args.table.now in
    let r = c.args.r.now in
    let l = c.loop-at in
    let z = place l.at l.invariant.1 (omega arith) in
    let p = c.put_at.ensures in
    let w : length l.table ≡ length t = l.invariant.3 in (
      p ∙ ap (λ (d : List ℕ). put_at d (l.at - 20) r) l.invariant.0 ∙ one_copy_more r t l.at c.told-r c.requires l.invariant.1 (omega arith) l.invariant.2,
      omega (arith, l.invariant.1),
      omega (arith, l.invariant.2),
      ap length p ∙ length_put l.table r (l.at - 20) (omega (arith, c.told-r, w, l.invariant.2)) ∙ w,
    )

pub returns : goal.returns
returns c =
    let l = c.loop-at in
    let z : l.at ≡ 0 = omega arith in
    l.invariant.0 ∙ ap (filled c.args.r.now c.args.table.now) z ∙ all_copies c.args.r.now c.args.table.now c.told-r c.requires
