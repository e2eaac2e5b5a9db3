-- Demand 3: the invariant gives both sides of it at once. Assumes nothing.
use mathlib.Core.Path.{◌≡◌, refl, sym, ◌∙◌}
use mathlib.Core.Logic.{◌↔◌}
use mathlib.Core.Bool.{Bool, true, false, and-false}
use mathlib.Core.List.{List}
use Prim.Native.Nat.{ℕ}
use native.Mathlib.Omega.{arith}
use lib.Dec.{eqb}
use borrow.Author.Tests.{eq-eqb}
use Rattle.table6.specs.declared.State.{State}
use Rattle.step.proofs.Untouched.{others_untouched}
use Rattle.history.specs.History.{Mark, Stands, Served, history}
use Rattle.history.specs.Tests.{stands, sent, due, served}
use Rattle.history.specs.Demand.{Demand3}
use Rattle.history.proofs.Tested.{stands_tested, served_tested}
use Rattle.history.proofs.Table.{down, on, serving, now}
use Rattle.history.proofs.Step.{NowIs, Inv, keeps_inv}
use Rattle.history.proofs.Calls.{Kept, after_each_call}

module _ (n1 c1 : ℕ) (h : List Mark) where
  not_up : NowIs n1 down c1 h → served n1 h ≡ false
  not_up i = rw i

  not_told : (g z : Bool) → NowIs n1 (on false g z) c1 h → served n1 h ≡ false
  not_told g z i = rw (i.0, i.1) (and-false (eqb (sent h) (due n1 h)))

  told : (g : Bool) → NowIs n1 (on true g true) c1 h → served n1 h ≡ g
  told g i = let all = eq-eqb (sent h) (due n1 h) (omega (arith, i.3, i.4 refl)) in rw (i.0, all, i.1, i.2)

  by_state : (s : State) (flag : Bool) → NowIs n1 (now s flag) c1 h → served n1 h ≡ serving s
  by_state State.S111 flag i = not_up i
  by_state State.S141 flag i = not_up i
  by_state State.S212 flag i = not_up i
  by_state State.S222 flag i = not_up i
  by_state State.S242 flag i = not_up i
  by_state State.S2103 flag i = not_told flag false i
  by_state State.S2104 flag i = told false i
  by_state State.S3105 flag i = told true i

alike : (n1 : ℕ) (r : List ℕ) (h : List Mark) → Kept Inv n1 r h → stands h ≡ served n1 h
alike n1 r h k = k.inv.stand_is ∙ sym (by_state n1 k.link.c1 h k.link.state k.link.ins k.inv.now_is)

in_words : (n1 : ℕ) (h : List Mark) → stands h ≡ served n1 h → Stands h ↔ Served n1 h
in_words n1 h e =
    let s = stands_tested h in
    let t = served_tested n1 h in
    (λ (x : Stands h). t.1 (sym e ∙ s.0 x), λ (x : Served n1 h). s.1 (e ∙ t.0 x))

pub demand3 : Demand3
demand3 =
    record {
      exactly = after_each_call Inv keeps_inv (λ w link. Stands (history w link) ↔ Served w.n1 (history w link)) (λ w link k. in_words w.n1 (history w link) (alike w.n1 _ (history w link) k));
      apart = others_untouched;
    }
