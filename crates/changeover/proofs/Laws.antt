-- The laws of the two calls. Assumes nothing.
use Prim.Native.Nat.{ℕ, ◌+◌, ◌*◌, ◌/◌, ◌%◌, ◌≤◌}
use native.Mathlib.Omega.{arith}
use mathlib.Core.Path.{◌≡◌, refl, sym, ap, subst, ◌∙◌}
use mathlib.Core.Bool.{Bool, true, false, cond, not, ◌||◌}
use mathlib.Core.Logic.{◌⊎◌, inl, inr}
use mathlib.Core.List.{List, [], ◌∷◌}
use lib.Dec.{eqb}
use lib.ListN.{length}
use borrow.Author.Tests.{eq-eqb, eqb-true, le-ltb}
use Rattle.unit.specs.Checks.{Verdict, passed, refused, first, number_of}
use Rattle.octet.specs.Octets.{Octets, at}
use Rattle.octet.proofs.Octets.{octet_at, listing, listed}
use Rattle.changeover.specs.declared.Changeover.{Changeover}
use Rattle.changeover.specs.declared.Answer.{Answer}
use Rattle.changeover.specs.Figure3.{octets_of, message_of}
use Rattle.changeover.specs.Calls.{message_octets, XCO, XCA, checks, writing, Written, written, write_call, answered, nothing, read, read_call}
use Rattle.changeover.specs.Laws.{Reread, Rewritten, RefusedUntouched, RefusedEmpty, EveryRead, NeverWide}
use Rattle.changeover.proofs.Figure3.{Fits, label, packed, low_part, octets_length, low_first, taken, unpacked, held_ssf, held_si, held_dpc, held_opc, held_slc, held_heading, held_number}
use Rattle.changeover.proofs.Calls.{on_message, fits, write_accepted, read_accepted}

-- REFUSALS
untouched_by : (v : Verdict ℕ) (o : List ℕ) (m : Changeover) → 1 ≤ (written v o m).refusal → (written v o m).output ≡ o
untouched_by passed o m h = absurd (omega arith)
untouched_by (refused n) o m h = refl

pub refused_untouched : RefusedUntouched
unfolding write_call
refused_untouched o m h = untouched_by (first (checks (length o) m)) o m h

empty_by : (v : Verdict ℕ) (m : Changeover) → 1 ≤ (read v m).refusal → (read v m).message ≡ nothing
empty_by passed m h = absurd (omega arith)
empty_by (refused n) m h = refl

pub refused_empty : RefusedEmpty
unfolding read_call
refused_empty r h = empty_by (first (checks (length r) (message_of r))) (message_of r) h

-- what octets hold has the widths of the figure
pub never_wide : NeverWide
never_wide r =
    rw (
      le-ltb 15 (message_of r).ssf (omega (arith, held_ssf r)),
      le-ltb 16383 (message_of r).dpc (omega (arith, held_dpc r)),
      le-ltb 16383 (message_of r).opc (omega (arith, held_opc r)),
      le-ltb 15 (message_of r).slc (omega (arith, held_slc r)),
      le-ltb 16777215 (message_of r).number (omega (arith, held_number r)),
    )

-- EVERY NINE OCTETS
good_heading : (r : List ℕ) → (at r 5 ≡ XCO) ⊎ (at r 5 ≡ XCA) → eqb (message_of r).heading XCO || eqb (message_of r).heading XCA ≡ true
good_heading r (inl e) = ap (λ (h : ℕ). eqb h XCO || eqb h XCA) (held_heading r ∙ ap (λ (x : ℕ). x % 256) e)
good_heading r (inr e) = ap (λ (h : ℕ). eqb h XCO || eqb h XCA) (held_heading r ∙ ap (λ (x : ℕ). x % 256) e)

pub every_read : EveryRead
every_read r l h s =
    sym (read_accepted r l (rw (good_heading r h, eq-eqb (message_of r).si 0 (held_si r ∙ s), never_wide r) refl))

-- THERE AND BACK

-- what is written is octets
octets_of_lem : (m : Changeover) → Fits m → Octets (octets_of m)
octets_of_lem m f =
    let f1 = f.ssf in
    let f2 = f.si in
    let f5 = f.slc in
    let f3 = f.dpc in
    let f4 = f.opc in
    let f6 = f.heading in
    let f7 = f.number in
    subst Octets (packed m f) (omega arith, (omega arith, (omega arith, (omega arith, (omega arith, (omega arith, (omega arith, (omega arith, (omega arith, tt)))))))))

-- and holds the same message
message_back : (m : Changeover) → Fits m → message_of (octets_of m) ≡ m
message_back m f =
    let f1 = f.ssf in
    let f2 = f.si in
    let f5 = f.slc in
    let f3 = f.dpc in
    let f4 = f.opc in
    let f7 = f.number in
    let r = octets_of m in
    let l : low_first (label m % 256) (label m / 256 % 256) (label m / 65536 % 256) (label m / 16777216) ≡ label m = omega arith in
    let n : low_first (m.number % 256) (m.number / 256 % 256) (m.number / 65536) 0 ≡ m.number = omega arith in
    let ssf : (m.ssf * 16 + m.si) / 16 ≡ m.ssf = omega arith in
    let si : (m.ssf * 16 + m.si) % 16 ≡ m.si = omega arith in
    let dpc : label m % 16384 ≡ m.dpc = omega arith in
    let above : label m / 16384 ≡ m.opc + 16384 * m.slc = omega arith in
    let opc : label m / 16384 % 16384 ≡ m.opc = ap (λ (x : ℕ). x % 16384) above ∙ low_part 16384 m.opc m.slc (omega arith) in
    let slc : label m / 268435456 ≡ m.slc = omega arith in
    sym (unpacked r (octet_at r (octets_of_lem m f)))
    ∙ ap taken (sym (packed m f))
    ∙ (λ i. record { ssf = ssf i; si = si i; dpc = l i % 16384; opc = l i / 16384 % 16384; slc = l i / 268435456; heading = m.heading; number = n i })
    ∙ (λ i. record { ssf = m.ssf; si = m.si; dpc = dpc i; opc = opc i; slc = slc i; heading = m.heading; number = m.number })

-- a label put together of its parts
rejoined : (l : ℕ) → l % 16384 + l / 16384 % 16384 * 16384 + l / 268435456 * 268435456 ≡ l
rejoined l =
    let q : l / 268435456 ≡ l / 16384 / 16384 = omega arith in
    omega arith

octets_back : (r : List ℕ) → Octets r → length r ≡ message_octets → Fits (message_of r) → octets_of (message_of r) ≡ r
octets_back r o n f =
    let b = octet_at r o in
    let b0 = b 0 in
    let b1 = b 1 in
    let b2 = b 2 in
    let b3 = b 3 in
    let b4 = b 4 in
    let b6 = b 6 in
    let b7 = b 7 in
    let b8 = b 8 in
    let m = taken r in
    let l = low_first (at r 1) (at r 2) (at r 3) (at r 4) in
    let k = low_first (at r 6) (at r 7) (at r 8) 0 in
    let e : label m ≡ l = rejoined l in
    let e0 : at r 0 / 16 * 16 + at r 0 % 16 ≡ at r 0 = omega arith in
    let e1 : l % 256 ≡ at r 1 = omega arith in
    let u2 : l / 256 ≡ at r 2 + 256 * (at r 3 + 256 * at r 4) = omega arith in
    let u3 : l / 65536 ≡ at r 3 + 256 * at r 4 = omega arith in
    let e2 : l / 256 % 256 ≡ at r 2 = ap (λ (x : ℕ). x % 256) u2 ∙ low_part 256 (at r 2) (at r 3 + 256 * at r 4) b2 in
    let e3 : l / 65536 % 256 ≡ at r 3 = ap (λ (x : ℕ). x % 256) u3 ∙ low_part 256 (at r 3) (at r 4) b3 in
    let e4 : l / 16777216 ≡ at r 4 = omega arith in
    let e6 : k % 256 ≡ at r 6 = omega arith in
    let u7 : k / 256 ≡ at r 7 + 256 * at r 8 = omega arith in
    let e7 : k / 256 % 256 ≡ at r 7 = ap (λ (x : ℕ). x % 256) u7 ∙ low_part 256 (at r 7) (at r 8) b7 in
    let e8 : k / 65536 ≡ at r 8 = omega arith in
    ap octets_of (sym (unpacked r b))
    ∙ sym (packed m (subst Fits (sym (unpacked r b)) f))
    ∙ (λ i. e0 i ∷ (e i % 256) ∷ (e i / 256 % 256) ∷ (e i / 65536 % 256) ∷ (e i / 16777216) ∷ at r 5 ∷ e6 i ∷ e7 i ∷ e8 i ∷ [])
    ∙ (λ i. at r 0 ∷ e1 i ∷ e2 i ∷ e3 i ∷ e4 i ∷ at r 5 ∷ at r 6 ∷ at r 7 ∷ at r 8 ∷ [])
    ∙ ap (listing r 0) (sym n)
    ∙ sym (listed r)

-- what a call without refusal tells: nine octets, and a message that no check refuses
number_written : (v : Verdict ℕ) (o : List ℕ) (m : Changeover) → (written v o m).refusal ≡ number_of v
number_written passed o m = refl
number_written (refused n) o m = refl

number_read : (v : Verdict ℕ) (m : Changeover) → (read v m).refusal ≡ number_of v
number_read passed m = refl
number_read (refused n) m = refl

accepted : (n : ℕ) (m : Changeover) → number_of (first (checks n m)) ≡ 0 → (n ≡ message_octets) × (number_of (on_message m) ≡ 0)
accepted n m h = by (eqb n message_octets) refl h where
  by : (b : Bool) → eqb n message_octets ≡ b → number_of (cond (not b) (refused 1) (on_message m)) ≡ 0 → (n ≡ message_octets) × (number_of (on_message m) ≡ 0)
  by true e h = (eqb-true n message_octets e, h)
  by false e h = absurd (omega arith)

wrote : (o : List ℕ) (m : Changeover) → (write_call o m).refusal ≡ 0 → (length o ≡ message_octets) × (number_of (on_message m) ≡ 0)
unfolding write_call
wrote o m h = accepted (length o) m (sym (number_written (first (checks (length o) m)) o m) ∙ h)

was_read : (r : List ℕ) → (read_call r).refusal ≡ 0 → (length r ≡ message_octets) × (number_of (on_message (message_of r)) ≡ 0)
unfolding read_call
was_read r h = accepted (length r) (message_of r) (sym (number_read (first (checks (length r) (message_of r))) (message_of r)) ∙ h)

pub reread : Reread
reread o m h =
    let w = wrote o m h in
    let back = message_back m (fits m w.1) in
    ap (λ (x : Written). read_call x.output) (sym (write_accepted o m w.0 w.1))
    ∙ sym (read_accepted (octets_of m) (octets_length m) (ap (λ (x : Changeover). number_of (on_message x)) back ∙ w.1))
    ∙ ap (answered 0) back

pub rewritten : Rewritten
rewritten r o x l h =
    let w = was_read r h in
    ap (λ (a : Answer). write_call o a.message) (sym (read_accepted r w.0 w.1))
    ∙ sym (write_accepted o (message_of r) l w.1)
    ∙ ap (writing 0) (octets_back r x w.0 (fits (message_of r) w.1))
