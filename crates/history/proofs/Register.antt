-- What a host reads off the state octet, and what holds of every in-service indication and every proving unit, from the invariant. Assumes nothing.
use mathlib.Core.Path.{◌≡◌, refl, sym, ap, ◌∙◌}
use mathlib.Core.Logic.{◌↔◌}
use mathlib.Core.Bool.{true, not, ◌&&◌, false≢true, true≢false}
use mathlib.Core.List.{List}
use Prim.Native.Nat.{ℕ, ◌≤◌}
use native.Mathlib.Omega.{arith}
use lib.Dec.{eqb}
use borrow.Author.Tests.{eqb-true}
use Rattle.unit.specs.declared.Mps.{Mps}
use Rattle.unit.proofs.Proving.{all_if_normal}
use Rattle.table6.specs.declared.State.{State}
use Rattle.table6.proofs.Every.{left, right}
use Rattle.octet.specs.Octets.{at}
use Rattle.record.specs.LinkRecord.{state_code, octets_of}
use Rattle.step.specs.Step.{record_at}
use Rattle.history.specs.History.{Mark, edge, proving_sent, in_service, Somewhere, count, Stands, Connection, since, begun, mps, ups, field, decided, Served, history}
use Rattle.history.specs.Tests.{from, alive, sent, due, told_ins, heard_ins, served}
use Rattle.history.specs.Register.{StateOctet, NotEarly, ForcedProving, ForcedEmergency}
use Rattle.history.proofs.Tested.{stands_tested, served_tested, connection, begun_there, sent_there, due_there}
use Rattle.history.proofs.Lawful.{is_emergency, spared, indication, unit}
use Rattle.history.proofs.Table.{serving}
use Rattle.history.proofs.Step.{Inv, keeps_inv}
use Rattle.history.proofs.Calls.{Kept, after_each_call}

-- THE STATE OCTET
eight : (s : State) → (state_code s ≡ 8) ↔ (serving s ≡ true)
eight State.S111 = (λ e. absurd (omega arith), λ e. absurd (false≢true e))
eight State.S141 = (λ e. absurd (omega arith), λ e. absurd (false≢true e))
eight State.S212 = (λ e. absurd (omega arith), λ e. absurd (false≢true e))
eight State.S222 = (λ e. absurd (omega arith), λ e. absurd (false≢true e))
eight State.S242 = (λ e. absurd (omega arith), λ e. absurd (false≢true e))
eight State.S2103 = (λ e. absurd (omega arith), λ e. absurd (false≢true e))
eight State.S2104 = (λ e. absurd (omega arith), λ e. absurd (false≢true e))
eight State.S3105 = (λ e. refl, λ e. refl)

octet : (n1 : ℕ) (r : List ℕ) (h : List Mark) → Kept Inv n1 r h → (at r 2 ≡ 8) ↔ Stands h
unfolding octets_of
octet n1 r h k =
    let code : at r 2 ≡ state_code k.link.state = ap (λ (x : List ℕ). at x 2) k.octets in
    let e = eight k.link.state in
    let s = stands_tested h in
    (λ x. s.1 (k.inv.stand_is ∙ e.0 (sym code ∙ x)), λ (x : Stands h). code ∙ e.1 (sym k.inv.stand_is ∙ s.0 x))

pub state_octet : StateOctet
state_octet = after_each_call Inv keeps_inv (λ w link. (at (record_at w.table link) 2 ≡ 8) ↔ Stands (history w link)) (λ w link k. octet w.n1 _ (history w link) k)

-- EVERY MARK
pub not_early : NotEarly
not_early =
    after_each_call Inv keeps_inv (λ w link. (i : Somewhere in_service (history w link)) → Served w.n1 i.earlier)
    (λ w link k i. (served_tested w.n1 i.earlier).1 (indication w.n1 (history w link) k.inv.lawful_is i))

enough : (n1 : ℕ) (h : List Mark) → served n1 h ≡ true → (c : Connection h) → mps (begun c) ≡ Mps.Normal → n1 ≤ count proving_sent (since c)
enough n1 h t c e =
    let all : sent h ≡ due n1 h = eqb-true (sent h) (due n1 h) (left (eqb (sent h) (due n1 h)) (told_ins n1 h && heard_ins h) (right (alive h) _ t)) in
    let d : n1 ≤ decided n1 (begun c) = rw e (all_if_normal (ups (begun c)) (field (begun c)) n1) in
    omega (arith, sent_there c, due_there c n1)

pub forced_proving : ForcedProving
forced_proving =
    after_each_call Inv keeps_inv (λ w link. (i : Somewhere in_service (history w link)) (c : Connection i.earlier) → mps (begun c) ≡ Mps.Normal → w.n1 ≤ count proving_sent (since c))
    (λ w link k i c. enough w.n1 i.earlier (indication w.n1 (history w link) k.inv.lawful_is i) c)

not_under : (h : List Mark) → spared h ≡ true → (c : Connection h) × (mps (begun c) ≡ Mps.Emergency → ⊥)
not_under h t =
    let c = connection h (left (alive h) (not (is_emergency (mps (from edge h)))) t) in
    (c, λ e. true≢false (sym (right (alive h) (not (is_emergency (mps (from edge h)))) t) ∙ ap (λ (x : List Mark). not (is_emergency (mps x))) (begun_there c) ∙ ap (λ (x : Mps). not (is_emergency x)) e))

pub forced_none : ForcedEmergency
forced_none =
    after_each_call Inv keeps_inv (λ w link. (u : Somewhere proving_sent (history w link)) → (c : Connection u.earlier) × (mps (begun c) ≡ Mps.Emergency → ⊥))
    (λ w link k u. not_under u.earlier (unit w.n1 (history w link) k.inv.lawful_is u))
