-- The twelve octets of an event's or a signal's record, there and back, whatever the mark. Assumes nothing.
use Prim.Native.Nat.{ℕ, zero, suc, ◌+◌, ◌-◌, ◌/◌, ◌%◌, ◌≤◌, ◌<◌}
use native.Mathlib.Omega.{arith}
use mathlib.Core.Path.{◌≡◌, refl, sym, ap, ◌∙◌}
use mathlib.Core.Bool.{Bool, true, false, ◌&&◌, and-true, and-false, true-and}
use mathlib.Core.List.{List, [], ◌∷◌}
use lib.Dec.{eqb, leb, ltb}
use lib.ListN.{length, drop, length-drop}
use borrow.Author.Tests.{leb-true, leb-false, eqb-true, eqb-false, le-leb, lt-leb, lt-ltb, le-ltb, eq-eqb, ne_eqb}
use Rattle.table6.proofs.Every.{left, right}
use Rattle.link.specs.declared.Num.{Num}
use Rattle.octet.specs.Octets.{Octets, at, two}
use Rattle.event.specs.Frame.{framed_as, written, link_at, code_at, param_at, number_at, length_at, message_of}
use Rattle.octet.proofs.Octets.{octet_at, high_same, low_same}

-- the parts of a sound frame
pub record Sound (mark r : List ℕ) : Type 0 where
  pub twelve : 12 ≤ length r
  pub mark₀ : at r 0 ≡ at mark 0
  pub mark₁ : at r 1 ≡ at mark 1
  pub nine : at r 9 ≡ 0
  pub few : length_at r ≤ 4096
  pub follows : 12 + length_at r ≡ length r

pub sound : (mark r : List ℕ) → framed_as mark r ≡ true → Sound mark r
unfolding framed_as
sound mark r f =
    let a = leb 12 (length r) in
    let b = eqb (at r 0) (at mark 0) in
    let c = eqb (at r 1) (at mark 1) in
    let d = eqb (at r 9) 0 in
    let g = leb (length_at r) 4096 in
    let h = eqb (12 + length_at r) (length r) in
    let w5 = right a (b && c && d && g && h) f in
    let w4 = left (b && c && d && g) h w5 in
    let w3 = left (b && c && d) g w4 in
    let w2 = left (b && c) d w3 in
    record {
      twelve = leb-true 12 (length r) (left a (b && c && d && g && h) f);
      mark₀ = eqb-true (at r 0) (at mark 0) (left b c w2);
      mark₁ = eqb-true (at r 1) (at mark 1) (right b c w2);
      nine = eqb-true (at r 9) 0 (right (b && c) d w3);
      few = leb-true (length_at r) 4096 (right (b && c && d) g w4);
      follows = eqb-true (12 + length_at r) (length r) (right (b && c && d && g) h w5);
    }

-- All of it but the length, of a record that is neither too short nor too long: then its length has to be that of what follows.
pub framed_by : (mark r : List ℕ) → 12 ≤ length r → length r ≤ 4108 →
    framed_as mark r ≡ eqb (length_at r) (length r - 12) && (eqb (at r 0) (at mark 0) && eqb (at r 1) (at mark 1)) && eqb (at r 9) 0
unfolding framed_as
framed_by mark r low high = by (eqb (length_at r) (length r - 12)) refl where
  by : (b : Bool) → eqb (length_at r) (length r - 12) ≡ b →
      leb 12 (length r) && (eqb (at r 0) (at mark 0) && eqb (at r 1) (at mark 1) && eqb (at r 9) 0 && leb (length_at r) 4096 && eqb (12 + length_at r) (length r))
      ≡ b && (eqb (at r 0) (at mark 0) && eqb (at r 1) (at mark 1)) && eqb (at r 9) 0
  by true e =
      let n = eqb-true (length_at r) (length r - 12) e in
      rw (le-leb 12 (length r) low, le-leb (length_at r) 4096 (omega arith), eq-eqb (12 + length_at r) (length r) (omega arith)) (simp (and-true, true-and))
  by false e =
      let n = eqb-false (length_at r) (length r - 12) e in
      rw (ne_eqb (12 + length_at r) (length r) (λ h. n (omega arith))) (simp and-false)

-- one that is too short is not sound, nor one that is too long
pub too_short : (mark r : List ℕ) → length r < 12 → framed_as mark r ≡ false
unfolding framed_as
too_short mark r h = rw (lt-leb 12 (length r) h)

pub too_long : (mark r : List ℕ) → 4108 < length r → framed_as mark r ≡ false
too_long mark r h = by (framed_as mark r) refl where
  by : (b : Bool) → framed_as mark r ≡ b → b ≡ false
  by true f = absurd (omega (arith, (sound mark r f).few, (sound mark r f).follows))
  by false f = refl

-- the message is as long as its length says
pub message_length : (mark r : List ℕ) → framed_as mark r ≡ true → length (message_of r) ≡ length_at r
message_length mark r f = length-drop 12 r ∙ omega (arith, (sound mark r f).follows)

-- the length's octets of a record are those of its message
pub length_octets : (e : List ℕ) → at e 11 < 256 → length_at e ≡ length (message_of e) → (length (message_of e) / 256 ≡ at e 10) × (length (message_of e) % 256 ≡ at e 11)
length_octets e b h =
    (ap (λ (n : ℕ). n / 256) (sym h) ∙ high_same (at e 10) (at e 11) b, ap (λ (n : ℕ). n % 256) (sym h) ∙ low_same (at e 10) (at e 11) b)

-- WRITING WHAT WAS READ

one_more : (i : ℕ) (r : List ℕ) → i < length r → at r i ∷ drop (suc i) r ≡ drop i r
one_more i [] h = absurd (omega arith)
one_more zero (x ∷ r) h = refl
one_more (suc i) (x ∷ r) h = one_more i r (omega arith)

heads : (r : List ℕ) → 12 ≤ length r →
    at r 0 ∷ at r 1 ∷ at r 2 ∷ at r 3 ∷ at r 4 ∷ at r 5 ∷ at r 6 ∷ at r 7 ∷ at r 8 ∷ at r 9 ∷ at r 10 ∷ at r 11 ∷ drop 12 r ≡ r
heads r h =
    rw (
      one_more 11 r (omega arith),
      one_more 10 r (omega arith),
      one_more 9 r (omega arith),
      one_more 8 r (omega arith),
      one_more 7 r (omega arith),
      one_more 6 r (omega arith),
      one_more 5 r (omega arith),
      one_more 4 r (omega arith),
      one_more 3 r (omega arith),
      one_more 2 r (omega arith),
      one_more 1 r (omega arith),
      one_more 0 r (omega arith),
    )

pub frame_rewritten : (mark r : List ℕ) → Octets r → framed_as mark r ≡ true → written mark (link_at r) (code_at r) (param_at r) (number_at r) (message_of r) ≡ r
unfolding written
frame_rewritten mark r o f =
    let s = sound mark r f in
    let l = length_octets r (octet_at r o 11) (sym (message_length mark r f)) in
    let e0 = sym s.mark₀ in
    let e1 = sym s.mark₁ in
    let e2 = high_same (at r 2) (at r 3) (octet_at r o 3) in
    let e3 = low_same (at r 2) (at r 3) (octet_at r o 3) in
    let e9 = sym s.nine in
    (λ i. e0 i ∷ e1 i ∷ e2 i ∷ e3 i ∷ at r 4 ∷ at r 5 ∷ at r 6 ∷ at r 7 ∷ at r 8 ∷ e9 i ∷ l.0 i ∷ l.1 i ∷ message_of r) ∙ heads r s.twelve

-- THE LENGTH OF A SOUND FRAME, which is that of its message and twelve

pub at_least : (a b n : ℕ) → 12 + a ≡ n → leb (12 + b) n ≡ leb b a
at_least a b n h = by (leb b a) refl where
  by : (x : Bool) → leb b a ≡ x → leb (12 + b) n ≡ x
  by true e = le-leb (12 + b) n (omega (arith, leb-true b a e))
  by false e = lt-leb (12 + b) n (omega (arith, leb-false b a e))

pub some_message : (a n : ℕ) → 12 + a ≡ n → ltb 12 n ≡ leb 1 a
some_message a n h = by (leb 1 a) refl where
  by : (x : Bool) → leb 1 a ≡ x → ltb 12 n ≡ x
  by true e = lt-ltb 12 n (omega (arith, leb-true 1 a e))
  by false e = le-ltb 12 n (omega (arith, leb-false 1 a e))

-- READING WHAT WAS WRITTEN

-- a number of two octets comes back
pub two_back : (k : ℕ) → two (k / 256) (k % 256) ≡ k
two_back k = omega arith

module _ (mark : List ℕ) (l c p : ℕ) (n : Num) (m : List ℕ) where
  pub written_length : length (written mark l c p n m) ≡ 12 + length m
  unfolding written
  written_length = omega arith

  pub frame_reread : length m ≤ 4096 → framed_as mark (written mark l c p n m) ≡ true
  unfolding framed_as written
  frame_reread h =
      rw (
        written_length,
        two_back (length m),
        eq-eqb (at mark 0) (at mark 0) refl,
        eq-eqb (at mark 1) (at mark 1) refl,
        le-leb 12 (12 + length m) (omega arith),
        le-leb (length m) 4096 h,
        eq-eqb (12 + length m) (12 + length m) refl,
      )
