-- No second answer fits, of each function that other crates can call. Assumes nothing.
use Prim.Native.Nat.{ℕ}
use mathlib.Core.List.{List}
use Rattle.unit.specs.OneAnswer.{OneReading}
use Rattle.unit.proofs.OneAnswer.{equal}
use Rattle.signal.proofs.put_all.Kinds as put-all-kinds
use Rattle.signal.proofs.put_all.Reads as put-all

pub put_all_one : OneReading put-all-kinds.ps put-all-kinds.r (ℕ × List ℕ) (λ κs arguments x e. (x, e.0.now)) put-all.Post
put_all_one κs arguments x y e f p q =
    let a = equal p.answer q.answer in
    let w = equal p.written q.written in
    λ i. (a i, w i)
