-- What the list of an event's fields gives: as the code asks for it, and as the earlier refusal 4 had it. Assumes nothing.
use Prim.Native.Nat.{ℕ, ◌≤◌, ◌<◌}
use native.Mathlib.Omega.{arith}
use mathlib.Core.Path.{◌≡◌, refl, sym, ap, ◌∙◌}
use mathlib.Core.Bool.{Bool, true, false, cond, not, ◌&&◌, ◌||◌, or-false, or_assoc}
use lib.Dec.{eqb, leb}
use borrow.Author.Tests.{leb-true, leb-false, le-leb, lt-leb, eqb-true}
use Rattle.unit.proofs.Checks.{clear, none}
use Rattle.table6.specs.EventCodes.{MESSAGE-FOR-TRANSMISSION, RETRIEVAL-REQUEST-AND-FSNC, ESTABLISH-indication, ESTABLISH-confirm, RELEASE-indication}
use Rattle.table6.specs.EventCodes.{DATA-indication, UNITDATA-indication, RETRIEVE-indication, CONGESTION}
use Rattle.link.specs.declared.Num.{Num}
use Rattle.octet.proofs.Branches.{neither}
use Rattle.unit.specs.Unit.{none_or_status}
use Rattle.event.specs.Fields.{is_zero, is_source, parameter_field, number_field, length_field, fields, not_carried, out_of_range, field_checks}
use Rattle.event.specs.Refusal4.{misfit, SameMisfits}

-- THE CODES THAT CARRY EACH, as the code asks for them

abbrev pub has_field : ℕ → Bool
has_field c = eqb c ESTABLISH-indication || eqb c ESTABLISH-confirm || eqb c RELEASE-indication

abbrev pub has_parameter : ℕ → Bool
has_parameter c = has_field c || eqb c CONGESTION

abbrev pub has_number : ℕ → Bool
has_number c = eqb c RETRIEVAL-REQUEST-AND-FSNC || eqb c RELEASE-indication || eqb c DATA-indication

abbrev pub has_message : ℕ → Bool
has_message c = eqb c MESSAGE-FOR-TRANSMISSION || eqb c DATA-indication || eqb c UNITDATA-indication || eqb c RETRIEVE-indication

-- SET WITH A CODE THAT DOES NOT CARRY IT

pub parameter_not_carried : (c p : ℕ) → not (has_parameter c) && leb 1 p ≡ not_carried c (parameter_field p)
unfolding not_carried
parameter_not_carried c p = simp (or_assoc, or-false)

pub number_not_carried : (c : ℕ) (n : Num) → not (has_number c) && not (is_zero n) ≡ not_carried c (number_field n)
unfolding not_carried
number_not_carried c n = simp (or_assoc, or-false)

pub length_not_carried : (c len : ℕ) → not (has_message c) && leb 1 len ≡ not_carried c (length_field len)
unfolding not_carried
length_not_carried c len = simp (or_assoc, or-false)

-- OUT OF RANGE

pub level_out_of_range : (c p : ℕ) → c ≡ CONGESTION → not (leb p 3) ≡ out_of_range c (parameter_field p)
unfolding out_of_range
level_out_of_range c p h = rw h

one_of_three : (a b d r : Bool) → (a || b || d) && not r ≡ not (cond a r (cond b r (cond d r true)))
one_of_three true b d r = refl
one_of_three false true d r = refl
one_of_three false false true r = refl
one_of_three false false false r = refl

pub status_out_of_range : (c p : ℕ) → eqb c CONGESTION ≡ false → has_field c && not (none_or_status p) ≡ out_of_range c (parameter_field p)
unfolding out_of_range
status_out_of_range c p h = rw h (one_of_three (eqb c ESTABLISH-indication) (eqb c ESTABLISH-confirm) (eqb c RELEASE-indication) (none_or_status p))

-- what may be anything is in range
free : (b : Bool) → cond b true true ≡ true
free true = refl
free false = refl

pub source_out_of_range : (c : ℕ) (n : Num) → eqb c RELEASE-indication && not (is_source n) ≡ out_of_range c (number_field n)
unfolding out_of_range
source_out_of_range c n = by (eqb c RELEASE-indication) refl where
  by : (b : Bool) → eqb c RELEASE-indication ≡ b → b && not (is_source n) ≡ not (cond (eqb c RETRIEVAL-REQUEST-AND-FSNC) true (cond b (is_source n) (cond (eqb c DATA-indication) true true)))
  by true h = rw (eqb-true c RELEASE-indication h)
  by false h = rw (free (eqb c DATA-indication), free (eqb c RETRIEVAL-REQUEST-AND-FSNC))

pub length_out_of_range : (c len : ℕ) → eqb c MESSAGE-FOR-TRANSMISSION && not (leb 5 len) ≡ out_of_range c (length_field len)
unfolding out_of_range
length_out_of_range c len = by (eqb c MESSAGE-FOR-TRANSMISSION) where
  by : (b : Bool) → b && not (leb 5 len) ≡ not (cond b (leb 5 len) (cond (eqb c DATA-indication) true (cond (eqb c UNITDATA-indication) true (cond (eqb c RETRIEVE-indication) true true))))
  by true = refl
  by false = rw (free (eqb c RETRIEVE-indication), free (eqb c UNITDATA-indication), free (eqb c DATA-indication))

-- THE EARLIER REFUSAL 4

opposite : (a b d f : ℕ) → (a ≤ b → f < d) → (b < a → d ≤ f) → not (leb a b) ≡ leb d f
opposite a b d f p q = by (leb a b) refl where
  by : (x : Bool) → leb a b ≡ x → not x ≡ leb d f
  by true e = sym (lt-leb d f (p (leb-true a b e)))
  by false e = sym (le-leb d f (q (leb-false a b e)))

above_3 : (p : ℕ) → not (leb p 3) ≡ leb 4 p
above_3 p = opposite p 3 4 p (λ h. omega arith) (λ h. omega arith)

below_5 : (len : ℕ) → not (leb 5 len) ≡ leb len 4
below_5 len = opposite 5 len len 4 (λ h. omega arith) (λ h. omega arith)

parameter_out_of_range : (c p : ℕ) → has_field c && not (none_or_status p) || eqb c CONGESTION && leb 4 p ≡ out_of_range c (parameter_field p)
parameter_out_of_range c p = by (eqb c CONGESTION) refl where
  by : (b : Bool) → eqb c CONGESTION ≡ b → has_field c && not (none_or_status p) || b && leb 4 p ≡ out_of_range c (parameter_field p)
  by true h =
      let k = eqb-true c CONGESTION h in
      ap (λ (x : ℕ). has_field x && not (none_or_status p) || leb 4 p) k ∙ sym (above_3 p) ∙ level_out_of_range c p k
  by false h = or-false (has_field c && not (none_or_status p)) ∙ status_out_of_range c p h

pub same_misfits : SameMisfits
unfolding misfit
same_misfits c p n len =
    let m1 = not (has_message c) && leb 1 len in
    let m2 = not (has_number c) && not (is_zero n) in
    let m3 = not (has_parameter c) && leb 1 p in
    let m4 = has_field c && not (none_or_status p) in
    let m5 = eqb c CONGESTION && leb 4 p in
    let m6 = eqb c RELEASE-indication && not (is_source n) in
    let m7 = eqb c MESSAGE-FOR-TRANSMISSION && leb len 4 in
    let short : m7 ≡ out_of_range c (length_field len) = ap (λ (x : Bool). eqb c MESSAGE-FOR-TRANSMISSION && x) (sym (below_5 len)) ∙ length_out_of_range c len in (
      λ h.
          let k = clear (field_checks c (fields p n len)) h in
          let e45 = neither m4 m5 (parameter_out_of_range c p ∙ k.1.1.1.0) in
          rw (length_not_carried c len ∙ k.1.1.0, number_not_carried c n ∙ k.1.0, parameter_not_carried c p ∙ k.0, e45.0, e45.1, source_out_of_range c n ∙ k.1.1.1.1.0, short ∙ k.1.1.1.1.1.0),
      λ h.
          let h6 = neither (m1 || m2 || m3 || m4 || m5 || m6) m7 h in
          let h5 = neither (m1 || m2 || m3 || m4 || m5) m6 h6.0 in
          let h4 = neither (m1 || m2 || m3 || m4) m5 h5.0 in
          let h3 = neither (m1 || m2 || m3) m4 h4.0 in
          let h2 = neither (m1 || m2) m3 h3.0 in
          let h1 = neither m1 m2 h2.0 in
          let e45 : m4 || m5 ≡ false = rw h3.1 h4.1 in
          none (field_checks c (fields p n len))
          (sym (parameter_not_carried c p) ∙ h2.1, (sym (number_not_carried c n) ∙ h1.1, (sym (length_not_carried c len) ∙ h1.0, (sym (parameter_out_of_range c p) ∙ e45, (sym (source_out_of_range c n) ∙ h5.1, (sym short ∙ h6.1, tt)))))),
    )
