-- `signal::put_carrying` meets its contract: the eight octets of the word, with what it carries in its place.
use Rattle.std.proofs.Common.{◌≡◌, ℕ, ◌+◌, ◌/◌, ◌%◌, ◌<◌, ◌≤◌, Bool, true, false, cond, ltb, List, [], ◌∷◌, ◌++◌, length, take, drop, set, refl, sym, ap, ◌∙◌, arith, length-drop, drop-cons}
use mathlib.Core.Path.{subst}
use lib.ListN.{length-set}
use borrow.Author.Tests.{ltb-true, ltb-false}
use Rattle.unit.specs.declared.Status.{Status}
use Rattle.unit.specs.Unit.{code, unit_of}
use Rattle.unit.specs.Proving.{table8}
use Rattle.table6.specs.Stored.{word_at}
use Rattle.table6.proofs.Lists.{alike_from}
use Rattle.link.specs.declared.Carries.{Carries}
use Rattle.link.specs.Stored.{Given, meant_by}
use Rattle.octet.specs.Octets.{at, put_at}
use Rattle.record.specs.LinkRecord.{link_of}
use Rattle.event.specs.Frame.{param_at, number_at, message_of}
use Rattle.event.proofs.Frame.{length_octets}
use Rattle.signal.specs.Source.{brought_by}
use Rattle.signal.specs.SignalRecord.{body_of}
use Rattle.signal.specs.Writing.{from_code, carrying_at, PutCode}
use Rattle.signal.proofs.SignalRecord.{last_word, stored, with_body, with_end}
use Rattle.signal.proofs.put_carrying.Goals.{After-put_at}
use Rattle.signal.proofs.put_carrying.Goals as goal
use Rattle.signal.proofs.put_carrying.Goals.{then-w-ge-RETRIEVE_REQUEST, else-w-ge-RETRIEVE_REQUEST}

-- WHAT EACH RANGE OF WORDS COMES TO

module _ (o : Given) (m : List ℕ) (w : ℕ) where
  of_message : (b : Bool) → 44 ≤ w → ltb w 46 ≡ b → take 6 (carrying_at w) ++ (length m / 256 ∷ length m % 256 ∷ m) ≡ from_code m (meant_by o (word_at w))
  of_message true h e = alike_from (λ w. take 6 (carrying_at w) ++ (length m / 256 ∷ length m % 256 ∷ m)) (λ w. from_code m (meant_by o (word_at w))) 44 2 [] refl w h (ltb-true w 46 e)
  of_message false h e = rw (last_word w (ltb-false w 46 e)) refl

  of_offer : 40 ≤ w → w < 42 → set (carrying_at w) 1 (code (table8 o.mps o.ups)) ≡ from_code m (meant_by o (word_at w))
  of_offer h k = alike_from (λ w. set (carrying_at w) 1 (code (table8 o.mps o.ups))) (λ w. from_code m (meant_by o (word_at w))) 40 2 [] refl w h k

  of_param : 38 ≤ w → w < 40 → set (carrying_at w) 1 o.param ≡ from_code m (meant_by o (word_at w))
  of_param h k = alike_from (λ w. set (carrying_at w) 1 o.param) (λ w. from_code m (meant_by o (word_at w))) 38 2 [] refl w h k

unit_ins : (o : Given) (m : List ℕ) → carrying_at 43 ++ unit_of Status.INS ≡ from_code m (meant_by o (word_at 43))
unfolding unit_of
unit_ins o m = refl

unit_nm : (o : Given) (m : List ℕ) → carrying_at 42 ++ unit_of Status.NM ≡ from_code m (meant_by o (word_at 42))
unfolding unit_of
unit_nm o m = refl

of_unit : (s : Status) (w k : ℕ) {l d d₁ d₂ : List ℕ} {r : ℕ} → w ≡ k → carrying_at k ++ unit_of s ≡ l → length (carrying_at k) ≡ 8 → 12 ≤ length d → PutCode (carrying_at w) d 12 d₁ →
    (r ≡ 12 + length (unit_of s)) × (d₂ ≡ put_at d₁ 12 (unit_of s)) → PutCode l d r d₂
of_unit s w k {d = d} {d₁ = d₁} {d₂ = d₂} {r = r} q e n h p g =
    let p' = subst (λ (w : ℕ). PutCode (carrying_at w) d 12 d₁) q p in
    subst (λ (l : List ℕ). PutCode l d r d₂) e (with_body p' h (unit_of s) (g.1 ∙ ap (λ (j : ℕ). put_at d₁ (4 + j) (unit_of s)) (sym n)) g.0)

of_param_set : (s : List ℕ) (v : ℕ) {l d d₁ d₂ : List ℕ} {r : ℕ} → length s ≡ 8 → 12 ≤ length d → PutCode s d 12 d₁ → (r ≡ 12) × (d₂ ≡ set d₁ 5 v) → set s 1 v ≡ l → PutCode l d r d₂
of_param_set s v {d = d} n h p g e =
    let q = stored p h 1 v (omega (arith, n)) in
    record { answer = g.0 ∙ q.answer ∙ ap (λ (x : List ℕ). 4 + length x) e; written = g.1 ∙ q.written ∙ ap (put_at d 4) e }

of_number_set : (w k : ℕ) (a b c : ℕ) {l d d₁ d₂ : List ℕ} {r : ℕ} → w ≡ k → length (carrying_at k) ≡ 8 → 12 ≤ length d → PutCode (carrying_at w) d 12 d₁ →
    (r ≡ 12) × (d₂ ≡ set (set (set d₁ 6 a) 7 b) 8 c) → set (set (set (carrying_at k) 2 a) 3 b) 4 c ≡ l → PutCode l d r d₂
of_number_set w k a b c {d = d} {d₁ = d₁} z n h p g e =
    let t = carrying_at k in
    let x = length-set t 2 a in
    let y = length-set (set t 2 a) 3 b in
    let p' = subst (λ (w : ℕ). PutCode (carrying_at w) d 12 d₁) z p in
    let q = stored (stored (stored p' h 2 a (omega (arith, n))) h 3 b (omega (arith, n, x))) h 4 c (omega (arith, n, x, y)) in
    record { answer = g.0 ∙ q.answer ∙ ap (λ (x : List ℕ). 4 + length x) e; written = g.1 ∙ q.written ∙ ap (put_at d 4) e }

carries_message : (o : Given) (w : ℕ) (b : Bool) → 44 ≤ w → ltb w 46 ≡ b → (meant_by o (word_at w)).carries ≡ Carries.Message
carries_message o w true h e = alike_from (λ w. (meant_by o (word_at w)).carries) (λ w. Carries.Message) 44 2 Carries.Nothing refl w h (ltb-true w 46 e)
carries_message o w false h e = rw (last_word w (ltb-false w 46 e)) refl

-- an event from its length on
tail : (e : List ℕ) → 12 ≤ length e → drop 10 e ≡ at e 10 ∷ at e 11 ∷ message_of e
tail e h = drop-cons e 10 0 (omega arith) ∙ ap (λ (l : List ℕ). at e 10 ∷ l) (drop-cons e 11 0 (omega arith))

-- THE EIGHT OCTETS ARE WRITTEN

eight : (c : After-put_at) → PutCode (carrying_at c.args.w) c.args.out.now 12 c.put_at.new.dst
eight c = record { answer = refl; written = c.put_at.ensures ∙ ap (put_at c.args.out.now 4) c.carrying-eight.ensures }

eight_long : (w : ℕ) → length (carrying_at w) ≡ 8
eight_long w = refl

pub with_message-requires : goal.with_message-requires
with_message-requires c =
    let a = c.args in
    let h = rw (carries_message (brought_by a.source) a.w (ltb a.w 46) c.if-w-ge-RECEIVED_MESSAGE.true refl) at c.requires.1 in
    (c.args.source.whole, omega (arith, h, c.args.source.whole.0, length-drop 12 a.source.event.now))

pub returns-then-w-ge-RECEIVED_MESSAGE : goal.returns-then-w-ge-RECEIVED_MESSAGE
returns-then-w-ge-RECEIVED_MESSAGE c =
    let a = c.args in
    let e = a.source.event.now in
    let m = message_of e in
    let h = c.args.source.whole in
    let l = length_octets e (omega (arith, a.source.octets 11)) h.1 in
    let u = eight (goal.at.returns-then-w-ge-RECEIVED_MESSAGE c).After-put_at in
    let p = with_end u (omega (arith, c.requires.1)) 6 (drop 10 e) (eight_long a.w) (omega arith) (omega (arith, length-drop 10 e, h.0)) in
    let t : drop 10 e ≡ length m / 256 ∷ length m % 256 ∷ m = tail e h.0 ∙ (λ i. sym l.0 i ∷ sym l.1 i ∷ m) in
    let q = ap (λ (x : List ℕ). take 6 (carrying_at a.w) ++ x) t ∙ of_message (brought_by a.source) m a.w (ltb a.w 46) c.if-w-ge-RECEIVED_MESSAGE.true refl in
    let g = c.with_message.ensures in
    record {
      answer = omega (arith, g.0, p.answer, ap length q, length-drop 10 e, h.0);
      written = g.1 ∙ p.written ∙ ap (put_at a.out.now 4) q;
    }

-- a word that sends a unit is one of two
either_unit : (o : Given) (m : List ℕ) (w : ℕ) (b : Bool) {s : Status} {d d₁ d₂ : List ℕ} {r : ℕ} → 42 ≤ w → w < 44 → ltb w 43 ≡ b → s ≡ cond b Status.NM Status.INS → 12 ≤ length d →
    PutCode (carrying_at w) d 12 d₁ → (r ≡ 12 + length (unit_of s)) × (d₂ ≡ put_at d₁ 12 (unit_of s)) → PutCode (from_code m (meant_by o (word_at w))) d r d₂
either_unit o m w true h k e z n p g =
    let q : w ≡ 42 = omega (arith, ltb-true w 43 e) in
    rw q (of_unit Status.NM w 42 q (unit_nm o m) refl n p (rw z at g))
either_unit o m w false h k e z n p g =
    let q : w ≡ 43 = omega (arith, ltb-false w 43 e) in
    rw q (of_unit Status.INS w 43 q (unit_ins o m) refl n p (rw z at g))

unit_long : (s : Status) → length (unit_of s) ≡ 4
unfolding unit_of
unit_long s = refl

carries_unit : (o : Given) (m : List ℕ) (w : ℕ) (b : Bool) → 42 ≤ w → w < 44 → ltb w 43 ≡ b → length (body_of (meant_by o (word_at w)).carries m) ≡ 4
carries_unit o m w true h k e = let q : w ≡ 42 = omega (arith, ltb-true w 43 e) in rw q (unit_long Status.NM)
carries_unit o m w false h k e = let q : w ≡ 43 = omega (arith, ltb-false w 43 e) in rw q (unit_long Status.INS)

pub with_unit-requires : goal.with_unit-requires
with_unit-requires c =
    let a = c.args in
    let h = carries_unit (brought_by a.source) (message_of a.source.event.now) a.w (ltb a.w 43) c.if-w-ge-UNIT_NM.true (omega arith) refl in
    omega (arith, h, unit_long c.unit_in.result, c.requires.1)

pub returns-then-w-ge-UNIT_NM : goal.returns-then-w-ge-UNIT_NM
returns-then-w-ge-UNIT_NM c =
    let a = c.args in
    let u = eight (goal.at.returns-then-w-ge-UNIT_NM c).After-put_at in
    either_unit (brought_by a.source) (message_of a.source.event.now) a.w (ltb a.w 43) c.if-w-ge-UNIT_NM.true (omega arith) refl c.unit_in.ensures (omega (arith, c.requires.1)) u c.with_unit.ensures

pub returns-then-w-ge-ESTABLISH_REQUEST : goal.returns-then-w-ge-ESTABLISH_REQUEST
returns-then-w-ge-ESTABLISH_REQUEST c =
    let a = c.args in
    let u = eight (goal.at.returns-then-w-ge-ESTABLISH_REQUEST c).After-put_at in
    of_param_set (carrying_at a.w) c.offered.result (eight_long a.w) (omega (arith, c.requires.1)) u c.with_param.ensures
    (ap (set (carrying_at a.w) 1) c.offered.ensures ∙ of_offer (brought_by a.source) (message_of a.source.event.now) a.w (omega arith) (omega arith))

pub returns-then-w-ge-LINK_CONGESTED : goal.returns-then-w-ge-LINK_CONGESTED
returns-then-w-ge-LINK_CONGESTED c =
    let a = c.args in
    let u = eight (goal.at.returns-then-w-ge-LINK_CONGESTED c).After-put_at in
    of_param_set (carrying_at a.w) (param_at a.source.event.now) (eight_long a.w) (omega (arith, c.requires.1)) u c.with_param-then-w-ge-LINK_CONGESTED.ensures
    (of_param (brought_by a.source) (message_of a.source.event.now) a.w (omega arith) (omega arith))

pub returns : goal.returns
unfolding link_of
returns c =
    let a = c.args in
    let u = eight (goal.at.returns c).After-put_at in
    elim c.if-w-ge-RETRIEVE_REQUEST.branch [
      | then-w-ge-RETRIEVE_REQUEST b ↦
          let n = number_at a.source.event.now in
          let q : a.w ≡ 37 = omega (arith, b.if-w-ge-RETRIEVE_REQUEST.true, c.if-w-ge-LINK_CONGESTED.false) in
          rw q (of_number_set a.w 37 n.a n.b n.c {l = from_code (message_of a.source.event.now) (meant_by (brought_by a.source) (word_at 37))} q refl (omega (arith, c.requires.1)) u (rw b.at-is at c.with_number.ensures) refl)
      | else-w-ge-RETRIEVE_REQUEST b ↦
          let n = (link_of a.source.left.now).bsnt.num in
          let q : a.w ≡ 36 = omega (arith, c.requires.0, b.if-w-ge-RETRIEVE_REQUEST.false) in
          rw q (of_number_set a.w 36 n.a n.b n.c {l = from_code (message_of a.source.event.now) (meant_by (brought_by a.source) (word_at 36))} q refl (omega (arith, c.requires.1)) u (rw b.at-is at c.with_number.ensures) refl)
    ]
