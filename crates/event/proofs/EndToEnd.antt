-- Events end to end: what a sound one at the front is, and all of them one by one. Assumes nothing.
use mathlib.Core.Path.{◌≡◌, refl, sym, ap, ◌∙◌}
use mathlib.Core.Bool.{Bool, true, false, cond}
use mathlib.Core.List.{List, [], ◌∷◌}
use Prim.Native.Nat.{ℕ, zero, suc, ◌+◌, ◌-◌, ◌≤◌, ◌<◌}
use native.Mathlib.Omega.{arith}
use lib.ListN.{length, length-take, length-drop}
use lib.Seq.{get_or-take, length-take-le}
use borrow.Author.Tests.{eq-eqb}
use Rattle.octet.specs.Octets.{at, two}
use Rattle.event.specs.Frame.{EV, length_at}
use Rattle.event.specs.EndToEnd.{front, behind, sound, first_frames, frames, WellFormed, SoundIsWellFormed, FramesOneByOne}
use Rattle.event.proofs.Frame as frame
use Rattle.event.proofs.Frame.{framed_by}

-- the twelve octets of the record at the front
at_front : (es : List ℕ) (i : ℕ) → i < 12 → at (front es) i ≡ at es i
at_front es i h = get_or-take (12 + length_at es) es i 0 (omega arith)

front_length : (es : List ℕ) → length_at (front es) ≡ length_at es
front_length es =
    let a = at_front es 10 (omega arith) in
    let b = at_front es 11 (omega arith) in
    (λ i. two (a i) (b i))

pub well_formed_lem : (es : List ℕ) → sound es ≡ true → WellFormed es
well_formed_lem es h =
    let s = frame.sound EV (front es) h in
    let n = length-take (12 + length_at es) es in
    let l = front_length es in
    record {
      twelve = omega (arith, s.twelve, n);
      mark₀ = sym (at_front es 0 (omega arith)) ∙ s.mark₀;
      mark₁ = sym (at_front es 1 (omega arith)) ∙ s.mark₁;
      nine = sym (at_front es 9 (omega arith)) ∙ s.nine;
      few = omega (arith, s.few, l);
      within = omega (arith, s.follows, l, n);
    }

sound_front : (es : List ℕ) → WellFormed es → sound es ≡ true
sound_front es w =
    let n : length (front es) ≡ 12 + length_at es = length-take-le (12 + length_at es) es w.within in
    let l : length_at (front es) ≡ length (front es) - 12 = omega (arith, front_length es, n) in
    framed_by EV (front es) (omega (arith, n)) (omega (arith, n, w.few))
    ∙ rw (
      eq-eqb (length_at (front es)) (length (front es) - 12) l,
      eq-eqb (at (front es) 0) (at EV 0) (at_front es 0 (omega arith) ∙ w.mark₀),
      eq-eqb (at (front es) 1) (at EV 1) (at_front es 1 (omega arith) ∙ w.mark₁),
      eq-eqb (at (front es) 9) 0 (at_front es 9 (omega arith) ∙ w.nine),
    )

pub sound_is_well_formed : SoundIsWellFormed
sound_is_well_formed es = (well_formed_lem es, sound_front es)

-- what has fewer octets than it needs is broken
pub broken : (es : List ℕ) → (WellFormed es → ⊥) → sound es ≡ false
broken es h = by (sound es) refl where
  by : (b : Bool) → sound es ≡ b → b ≡ false
  by true s = absurd (h (well_formed_lem es s))
  by false s = refl

-- ONE BY ONE. Any number that is no less than the octets does.
none : (n : ℕ) (es : List ℕ) → length es ≤ 0 → first_frames (suc n) es ≡ []
none n es h = rw (broken es (λ w. omega (arith, w.twelve)))

fewer : (es : List ℕ) → sound es ≡ true → length (behind es) < length es
fewer es s = let w = well_formed_lem es s in omega (arith, length-drop (12 + length_at es) es, w.twelve)

-- where one stands at the front, equal others behind it
behind_it : (es : List ℕ) {fs gs : List (List ℕ)} → (sound es ≡ true → fs ≡ gs) → cond (sound es) (front es ∷ fs) [] ≡ cond (sound es) (front es ∷ gs) []
behind_it es {fs} {gs} h = by (sound es) refl where
  by : (b : Bool) → sound es ≡ b → cond b (front es ∷ fs) [] ≡ cond b (front es ∷ gs) []
  by true s = ap (λ (l : List (List ℕ)). front es ∷ l) (h s)
  by false s = refl

same : (n m : ℕ) (es : List ℕ) → length es ≤ n → length es ≤ m → first_frames n es ≡ first_frames m es
same zero zero es h g = refl
same zero (suc m) es h g = sym (none m es h)
same (suc n) zero es h g = none n es g
same (suc n) (suc m) es h g = behind_it es (λ s. same n m (behind es) (omega (arith, fewer es s)) (omega (arith, fewer es s)))

pub frames_one_by_one : FramesOneByOne
unfolding frames
frames_one_by_one es =
    same (length es) (suc (length es)) es (omega arith) (omega arith)
    ∙ behind_it es (λ s. same (length es) (length (behind es)) (behind es) (omega (arith, fewer es s)) (omega arith))
