-- `signal::put_run` meets its contract: each turn tells one more signal that is known beforehand, behind those before it.
use Rattle.std.proofs.Common.{length, refl, sym, ap, ◌∙◌, arith}
use Rattle.signal.specs.Writing.{known}
use Rattle.octet.proofs.Over.{put_nothing, length_put}
use Rattle.signal.proofs.Runs.{known_length, none_yet, turn}
use Rattle.signal.proofs.put_run.Goals as goal

pub loop-left-init : goal.loop-left-init
loop-left-init c = let a = c.args in (none_yet a.front a.run a.out.now (sym (put_nothing a.out.now a.run.at)), refl)

pub loop-left-preserved : goal.loop-left-preserved
loop-left-preserved c =
    let a = c.args in
    let l = c.loop-left in
    let t =
    turn a.front a.run (record { at = l.at; rest = l.rest; left = l.left }) a.out.now l.out c.put_known.new.out c.requires.0 (omega (arith, c.requires.1))
    l.invariant.0 c.loop-left-test.true c.if-rest-lt-CARRYING.true c.put_known.ensures in
    let k = known a.front t.told a.run.rest in
    (t, ap length t.written ∙ length_put a.out.now k a.run.at (omega (arith, known_length a.front t.told a.run.rest c.requires.0 t.words, t.all, c.requires.1)))
