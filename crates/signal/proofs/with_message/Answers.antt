-- `signal::with_message` meets its contract: what is held is the event from its length on.
use Rattle.std.proofs.Common.{◌≡◌, ℕ, ◌+◌, ◌-◌, List, length, take, drop, ap, ◌∙◌, arith, length-drop}
use lib.Seq.{take_all}
use Rattle.octet.specs.Octets.{at, two, over, put_at}
use Rattle.octet.proofs.Over.{over_front}
use Rattle.signal.specs.Writing.{Whole}
use Rattle.signal.proofs.with_message.Goals as goal

-- the event ends where its length says
ends : (e : List ℕ) (r : ℕ) → Whole e → r ≡ two (at e 10) (at e 11) → 12 + r ≡ length e
ends e r h f = omega (arith, h.0, h.1, length-drop 12 e)

front : (h x y : List ℕ) (n : ℕ) → x ≡ y → n ≡ length y → take n (over x h) ≡ y
front h x y n q e = (λ i. take (e i) (over (q i) h)) ∙ over_front y h

-- what is held is the event from its length on
kept : (e k h : List ℕ) (r : ℕ) → 12 + r ≡ length e → k ≡ over (take (12 + r - 10) (drop 10 e)) h → take (12 + r - 10) k ≡ drop 10 e
kept e k h r g p =
    let n : ℕ = 12 + r - 10 in
    let f : n ≡ length (drop 10 e) = omega (arith, length-drop 10 e) in
    ap (take n) p ∙ front h (take n (drop 10 e)) (drop 10 e) n (take_all n (drop 10 e) (omega (arith, f))) f

pub returns : goal.returns
returns c =
    let e = c.args.e.now in
    let g = ends e c.wide.result c.requires.0 c.wide.ensures in
    (g, c.put_at.ensures ∙ ap (put_at c.args.out.now 10) (kept e c.put.new.dst _ c.wide.result g c.put.ensures))
