-- What the calls come to, by the checks: refused by one, or past all of them. Assumes nothing.
use Prim.Native.Nat.{ℕ, ◌≤◌}
use native.Mathlib.Omega.{arith}
use mathlib.Core.Path.{◌≡◌}
use mathlib.Core.Bool.{true, ◌||◌}
use mathlib.Core.Logic.{◌⊎◌, inl, inr}
use mathlib.Core.List.{List}
use lib.Dec.{eqb, ltb}
use lib.ListN.{length, drop}
use borrow.Author.Tests.{eq-eqb, ne_eqb, eqb-true, ltb-false, not-false}
use Rattle.unit.specs.Checks.{Verdict, passed, first, number_of}
use Rattle.unit.proofs.Checks.{clear, none_refuses}
use Rattle.octet.specs.Octets.{over}
use Rattle.octet.proofs.Branches.{neither, either}
use Rattle.octet.proofs.Over.{over_whole}
use Rattle.changeover.specs.declared.Changeover.{Changeover}
use Rattle.changeover.specs.Figure3.{octets_of, message_of}
use Rattle.changeover.specs.Calls.{XCO, XCA, message_octets, checks, writing, written, write_call, answered, nothing, read, read_call}
use Rattle.changeover.proofs.Figure3.{Fits, octets_length}

-- the verdict on a message for nine octets
abbrev pub on_message : Changeover → Verdict ℕ
on_message m = first (drop 1 (checks message_octets m))

-- where 0 is answered none refuses
pub passes : (m : Changeover) → number_of (on_message m) ≡ 0 → on_message m ≡ passed
passes m h = none_refuses (drop 1 (checks message_octets m)) (omega arith, (omega arith, (omega arith, tt))) h

-- and all fields fit
headed_small : (h : ℕ) → (eqb h XCO ≡ true) ⊎ (eqb h XCA ≡ true) → h ≤ 255
headed_small h (inl e) = omega (arith, eqb-true h XCO e)
headed_small h (inr e) = omega (arith, eqb-true h XCA e)

pub fits : (m : Changeover) → number_of (on_message m) ≡ 0 → Fits m
fits m h =
    let o = eqb m.heading XCO in
    let a = eqb m.heading XCA in
    let w1 = ltb 15 m.ssf in
    let w2 = ltb 16383 m.dpc in
    let w3 = ltb 16383 m.opc in
    let w4 = ltb 15 m.slc in
    let w5 = ltb 16777215 m.number in
    let t = clear (drop 1 (checks message_octets m)) (passes m h) in
    let n4 = neither (w1 || w2 || w3 || w4) w5 t.1.1.0 in
    let n3 = neither (w1 || w2 || w3) w4 n4.0 in
    let n2 = neither (w1 || w2) w3 n3.0 in
    let n1 = neither w1 w2 n2.0 in
    record {
      ssf = ltb-false 15 m.ssf n1.0;
      si = omega (arith, eqb-true m.si 0 (not-false (eqb m.si 0) t.1.0));
      dpc = ltb-false 16383 m.dpc n1.1;
      opc = ltb-false 16383 m.opc n2.1;
      slc = ltb-false 15 m.slc n3.1;
      heading = headed_small m.heading (either o a (not-false (o || a) t.0));
      number = ltb-false 16777215 m.number n4.1;
    }

-- WRITING, of an output of another length and of nine octets: there the verdict on the message decides
pub write_other : (o : List ℕ) (m : Changeover) → (length o ≡ message_octets → ⊥) → write_call o m ≡ writing 1 o
unfolding write_call
write_other o m e = rw (ne_eqb (length o) message_octets e)

pub write_nine : (o : List ℕ) (m : Changeover) → length o ≡ message_octets → write_call o m ≡ written (on_message m) o m
unfolding write_call
write_nine o m e = rw (eq-eqb (length o) message_octets e)

pub write_accepted : (o : List ℕ) (m : Changeover) → length o ≡ message_octets → number_of (on_message m) ≡ 0 → writing 0 (octets_of m) ≡ write_call o m
write_accepted o m l e = rw (write_nine o m l, passes m e)

-- what is put over all of it
pub write_put : (o : List ℕ) (m : Changeover) → length o ≡ message_octets → number_of (on_message m) ≡ 0 → writing 0 (over (octets_of m) o) ≡ write_call o m
write_put o m l e = rw (over_whole (octets_of m) o (omega (arith, octets_length m))) (write_accepted o m l e)

-- READING, of another number of octets and of nine
pub read_other : (r : List ℕ) → (length r ≡ message_octets → ⊥) → read_call r ≡ answered 1 nothing
unfolding read_call
read_other r e = rw (ne_eqb (length r) message_octets e)

pub read_nine : (r : List ℕ) → length r ≡ message_octets → read_call r ≡ read (on_message (message_of r)) (message_of r)
unfolding read_call
read_nine r e = rw (eq-eqb (length r) message_octets e)

pub read_accepted : (r : List ℕ) → length r ≡ message_octets → number_of (on_message (message_of r)) ≡ 0 → answered 0 (message_of r) ≡ read_call r
read_accepted r l e = rw (read_nine r l, passes (message_of r) e)
