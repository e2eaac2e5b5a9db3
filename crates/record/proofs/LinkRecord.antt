-- The link record's round trips. Assumes nothing.
use mathlib.Core.Path.{◌≡◌, refl, sym, ap, subst, ◌∙◌}
use mathlib.Core.Bool.{Bool, true, false, cond, not, ◌&&◌, ◌||◌, and-true, and-false, and_assoc, true≢false}
use mathlib.Core.List.{List, [], ◌∷◌}
use mathlib.Core.Logic.{◌≢◌}
use Rattle.std.specs.Prelude.{Option, Some, None}
use Prim.Native.Nat.{ℕ, zero, suc, ◌+◌, ◌*◌, ◌/◌, ◌%◌, ◌≤◌}
use native.Mathlib.Omega.{arith}
use native.Mathlib.Nat.{div-add-mod'}
use lib.Dec.{eqb, leb}
use lib.ListN.{length, get_or}
use borrow.Author.Tests.{eq-eqb, eqb-true, leb-true, le-leb, lt-leb, ne_eqb}
use Rattle.std.specs.Cmp.Derive.{both_true}
use Rattle.std.proofs.lemmas.Bool.Decides.{nat_tests}
use Rattle.table6.specs.RefusalCodes.{REFUSED-RECORD}
use Rattle.unit.specs.declared.Mps.{Mps}
use Rattle.unit.specs.declared.Ups.{Ups}
use Rattle.unit.specs.Unit.{none_or_status}
use Rattle.unit.specs.Named.{mps_named}
use Rattle.unit.specs.Proving.{mps_code, ups_code}
use Rattle.unit.specs.Answered.{Answered, refused, accepted}
use Rattle.table6.specs.declared.State.{State}
use Rattle.table6.specs.States.{state_named}
use Rattle.unit.proofs.Proving.{mps_below, ups_below}
use Rattle.table6.proofs.Lists.{alike}
use Rattle.table6.proofs.Every.{left, right}
use Rattle.link.specs.declared.Link.{Link}
use Rattle.link.specs.Signal.{none}
use Rattle.octet.specs.Octets.{at, two, bit}
use Rattle.octet.proofs.Octets.{bit_le, octet_at, high_same, low_same, listing, listed}
use Rattle.record.specs.LinkRecord.{state_code, state_at, mps_at, ups_at, octets_of, link_of, well_formed, slot_of, found, Unpacked, PackedWell, UnpackedGood, Repacked}
use Rattle.record.specs.Decoded.{rest_formed}

state_back : (s : State) → state_at (state_code s) ≡ s
state_back State.S111 = refl
state_back State.S141 = refl
state_back State.S212 = refl
state_back State.S222 = refl
state_back State.S242 = refl
state_back State.S2103 = refl
state_back State.S2104 = refl
state_back State.S3105 = refl

mps_back : (m : Mps) → mps_at (mps_code m) ≡ m
mps_back Mps.Neutral = refl
mps_back Mps.Normal = refl
mps_back Mps.Emergency = refl

ups_back : (u : Ups) → ups_at (ups_code u) ≡ u
ups_back Ups.Normal = refl
ups_back Ups.Emergency = refl

bit_back : (b : Bool) → eqb (bit b) 1 ≡ b
bit_back true = refl
bit_back false = refl

only_flag : (b : Bool) → eqb (bit b % 2) 1 ≡ b
only_flag true = refl
only_flag false = refl

-- bits of an octet: the lowest, the second, the third
first : (x y z : Bool) → eqb ((bit x + 2 * bit y + 4 * bit z) % 2) 1 ≡ x
first x y z = grind (arith, nat_tests)

second : (x y z : Bool) → eqb ((bit x + 2 * bit y + 4 * bit z) / 2 % 2) 1 ≡ y
second x y z = grind (arith, nat_tests)

third : (x y z : Bool) → eqb ((bit x + 2 * bit y + 4 * bit z) / 4 % 2) 1 ≡ z
third x y z = grind (arith, nat_tests)

low_flag : (x y : Bool) → eqb ((bit x + 2 * bit y) % 2) 1 ≡ x
low_flag x y = grind (arith, nat_tests)

high_flag : (x y : Bool) → eqb ((bit x + 2 * bit y) / 2 % 2) 1 ≡ y
high_flag x y = grind (arith, nat_tests)

pub unpacked : Unpacked
unfolding octets_of link_of
unpacked l = λ i. record {
  state = state_back l.state i;
  ins = low_flag l.ins l.lpo i;
  lpo = high_flag l.ins l.lpo i;
  mps = mps_back l.mps i;
  ups = ups_back l.ups i;
  t1 = first l.t1 l.t2 l.t3 i;
  t2 = second l.t1 l.t2 l.t3 i;
  t3 = third l.t1 l.t2 l.t3 i;
  bsnt = record { known = bit_back l.bsnt.known i; num = l.bsnt.num };
  c1 = div-add-mod' l.c1 256 i;
  n1 = div-add-mod' l.n1 256 i;
  congested = only_flag l.congested i;
  last = l.last;
}

-- WHAT WAS PACKED IS WELL-FORMED

state_within : (s : State) → (leb 1 (state_code s) ≡ true) × (leb (state_code s) 8 ≡ true)
state_within State.S111 = (refl, refl)
state_within State.S141 = (refl, refl)
state_within State.S212 = (refl, refl)
state_within State.S222 = (refl, refl)
state_within State.S242 = (refl, refl)
state_within State.S2103 = (refl, refl)
state_within State.S2104 = (refl, refl)
state_within State.S3105 = (refl, refl)

known_or_none : (l : Link) (b : Bool) → l.bsnt.known ≡ b → (b ≡ false → l.bsnt.num ≡ none) →
    eqb (bit l.bsnt.known) 1 || eqb l.bsnt.num.a 0 && eqb l.bsnt.num.b 0 && eqb l.bsnt.num.c 0 ≡ true
known_or_none l true e h = rw e
known_or_none l false e h = rw (e, h refl)

pub packed_well : PackedWell
unfolding octets_of well_formed
packed_well l g =
    both_true (both_true (both_true (both_true (both_true (both_true (both_true (both_true (both_true (both_true (both_true (both_true (both_true (both_true (both_true refl refl)
    (state_within l.state).0) (state_within l.state).1)
    (le-leb (bit l.ins + 2 * bit l.lpo) 3 (omega (arith, bit_le l.ins, bit_le l.lpo))))
    (le-leb (mps_code l.mps) 2 (omega (arith, mps_below l.mps))))
    (le-leb (ups_code l.ups) 1 (omega (arith, ups_below l.ups))))
    (le-leb (bit l.t1 + 2 * bit l.t2 + 4 * bit l.t3) 7 (omega (arith, bit_le l.t1, bit_le l.t2, bit_le l.t3))))
    (le-leb (bit l.bsnt.known) 1 (bit_le l.bsnt.known)))
    (known_or_none l l.bsnt.known refl g.1))
    refl)
    (le-leb 1 (two (l.n1 / 256) (l.n1 % 256)) (rw (div-add-mod' l.n1 256) g.0)))
    (le-leb (bit l.congested) 1 (bit_le l.congested)))
    g.2)
    refl)
    refl

-- AND BACK

state_same : (c : ℕ) → 1 ≤ c → c ≤ 8 → state_code (state_at c) ≡ c
state_same zero p q = absurd (omega arith)
state_same (suc c) p q = alike (λ k. state_code (state_at (suc k))) suc 8 0 refl c (omega arith)

mps_same : (c : ℕ) → c ≤ 2 → mps_code (mps_at c) ≡ c
mps_same c h = alike (λ k. mps_code (mps_at k)) (λ k. k) 3 0 refl c (omega arith)

ups_same : (c : ℕ) → c ≤ 1 → ups_code (ups_at c) ≡ c
ups_same c h = alike (λ k. ups_code (ups_at k)) (λ k. k) 2 0 refl c (omega arith)

flags_same : (c : ℕ) → c ≤ 3 → bit (eqb (c % 2) 1) + 2 * bit (eqb (c / 2 % 2) 1) ≡ c
flags_same c h = alike (λ k. bit (eqb (k % 2) 1) + 2 * bit (eqb (k / 2 % 2) 1)) (λ k. k) 4 0 refl c (omega arith)

timers_same : (c : ℕ) → c ≤ 7 → bit (eqb (c % 2) 1) + 2 * bit (eqb (c / 2 % 2) 1) + 4 * bit (eqb (c / 4 % 2) 1) ≡ c
timers_same c h = alike (λ k. bit (eqb (k % 2) 1) + 2 * bit (eqb (k / 2 % 2) 1) + 4 * bit (eqb (k / 4 % 2) 1)) (λ k. k) 8 0 refl c (omega arith)

known_same : (c : ℕ) → c ≤ 1 → bit (eqb c 1) ≡ c
known_same c h = alike (λ k. bit (eqb k 1)) (λ k. k) 2 0 refl c (omega arith)

flag_same : (c : ℕ) → c ≤ 1 → bit (eqb (c % 2) 1) ≡ c
flag_same c h = alike (λ k. bit (eqb (k % 2) 1)) (λ k. k) 2 0 refl c (omega arith)

-- tests one behind another, and each of them
abbrev all : Bool → List Bool → Bool
all a [] = a
all a (b ∷ l) = all (a && b) l

each : (a : Bool) (l : List Bool) → all a l ≡ true → (i : ℕ) → get_or (a ∷ l) i true ≡ true
each a [] h zero = h
each a [] h (suc i) = refl
each a (b ∷ l) h zero = left a b (each (a && b) l h 0)
each a (b ∷ l) h (suc zero) = right a b (each (a && b) l h 0)
each a (b ∷ l) h (suc (suc i)) = each (a && b) l h (suc i)

-- the sixteen tests of a well-formed record: the first, and these
abbrev others : List ℕ → List Bool
others r =
    eqb (at r 1) 78
    ∷ leb 1 (at r 2)
    ∷ leb (at r 2) 8
    ∷ leb (at r 3) 3
    ∷ leb (at r 4) 2
    ∷ leb (at r 5) 1
    ∷ leb (at r 6) 7
    ∷ leb (at r 7) 1
    ∷ (eqb (at r 7) 1 || eqb (at r 8) 0 && eqb (at r 9) 0 && eqb (at r 10) 0)
    ∷ eqb (at r 11) 0
    ∷ leb 1 (two (at r 14) (at r 15))
    ∷ leb (at r 16) 1
    ∷ none_or_status (at r 17)
    ∷ eqb (at r 18) 0
    ∷ eqb (at r 19) 0
    ∷ []

formed : (r : List ℕ) → well_formed r ≡ true → (i : ℕ) → get_or (eqb (at r 0) 76 ∷ others r) i true ≡ true
unfolding well_formed
formed r w = each (eqb (at r 0) 76) (others r) w

-- what a well-formed record holds is good
no_number : (k a b c : Bool) → k || a && b && c ≡ true → k ≡ false → (a ≡ true) × (b ≡ true) × (c ≡ true)
no_number true a b c h e = absurd (true≢false e)
no_number false a b c h e = (left a b (left (a && b) c h), right a b (left (a && b) c h), right (a && b) c h)

pub unpacked_good : UnpackedGood
unfolding link_of
unpacked_good r w =
    let f = formed r w in (
      leb-true 1 (two (at r 14) (at r 15)) (f 11),
      λ e.
          let n = no_number (eqb (at r 7) 1) (eqb (at r 8) 0) (eqb (at r 9) 0) (eqb (at r 10) 0) (f 9) e in
          let a = eqb-true (at r 8) 0 n.0 in
          let b = eqb-true (at r 9) 0 n.1 in
          let c = eqb-true (at r 10) 0 n.2 in
          λ i. record { a = a i; b = b i; c = c i },
      f 13,
    )

pub repacked : Repacked
unfolding octets_of link_of
repacked r o n w =
    let p = formed r w in
    let e0 = sym (eqb-true (at r 0) 76 (p 0)) in
    let e1 = sym (eqb-true (at r 1) 78 (p 1)) in
    let e2 = state_same (at r 2) (leb-true 1 (at r 2) (p 2)) (leb-true (at r 2) 8 (p 3)) in
    let e3 = flags_same (at r 3) (leb-true (at r 3) 3 (p 4)) in
    let e4 = mps_same (at r 4) (leb-true (at r 4) 2 (p 5)) in
    let e5 = ups_same (at r 5) (leb-true (at r 5) 1 (p 6)) in
    let e6 = timers_same (at r 6) (leb-true (at r 6) 7 (p 7)) in
    let e7 = known_same (at r 7) (leb-true (at r 7) 1 (p 8)) in
    let e11 = sym (eqb-true (at r 11) 0 (p 10)) in
    let e12 = high_same (at r 12) (at r 13) (octet_at r o 13) in
    let e13 = low_same (at r 12) (at r 13) (octet_at r o 13) in
    let e14 = high_same (at r 14) (at r 15) (octet_at r o 15) in
    let e15 = low_same (at r 14) (at r 15) (octet_at r o 15) in
    let e16 = flag_same (at r 16) (leb-true (at r 16) 1 (p 12)) in
    let e18 = sym (eqb-true (at r 18) 0 (p 14)) in
    let e19 = sym (eqb-true (at r 19) 0 (p 15)) in
    (λ x. e0 x ∷ e1 x ∷ e2 x ∷ e3 x ∷ e4 x ∷ e5 x ∷ e6 x ∷ e7 x ∷ at r 8 ∷ at r 9 ∷ at r 10 ∷ e11 x ∷ e12 x ∷ e13 x ∷ e14 x ∷ e15 x ∷ e16 x ∷ at r 17 ∷ e18 x ∷ e19 x ∷ [])
    ∙ ap (listing r 0) (sym n)
    ∙ sym (listed r)

pub octets_length : (l : Link) → length (octets_of l) ≡ 20
unfolding octets_of
octets_length l = refl

-- WHAT READING TELLS of the octets that were read

abbrev pub SlotTold : List ℕ → Option Link → Type 0
SlotTold r None = eqb (length r) 20 && well_formed r ≡ false
SlotTold r (Some l) = (well_formed r ≡ true) × (link_of r ≡ l)

-- what was read, of an answer
abbrev back : Answered Link → Option Link
back (refused n) = None
back (accepted l) = Some l

back_is : (s : Option Link) → back (found s) ≡ s
back_is None = refl
back_is (Some l) = refl

pub one_slot : (s t : Option Link) → found s ≡ found t → s ≡ t
one_slot s t h = sym (back_is s) ∙ ap back h ∙ back_is t

tells : (r : List ℕ) (b : Bool) → eqb (length r) 20 && well_formed r ≡ b → SlotTold r (back (cond b (accepted (link_of r)) (refused REFUSED-RECORD)))
tells r false e = e
tells r true e = (right (eqb (length r) 20) (well_formed r) e, refl)

pub slot_tells : (r : List ℕ) (s : Option Link) → found s ≡ slot_of r → SlotTold r s
unfolding slot_of
slot_tells r s h = subst (SlotTold r) (ap back (sym h) ∙ back_is s) (tells r (eqb (length r) 20 && well_formed r) refl)

-- STATE AND MPS, decoded and tested at once

high_refused : (c : ℕ) → leb c 8 ≡ false → leb 1 c && leb c 8 ≡ false
high_refused c h = rw h (and-false (leb 1 c))

abbrev pub StateTold : ℕ → Option State → Type 0
StateTold c None = leb 1 c && leb c 8 ≡ false
StateTold c (Some s) = (leb 1 c ≡ true) × (leb c 8 ≡ true) × (s ≡ state_at c)

state_told : (c : ℕ) → StateTold c (state_named c)
state_told zero = refl
state_told (suc zero) = (refl, refl, refl)
state_told (suc (suc zero)) = (refl, refl, refl)
state_told (suc (suc (suc zero))) = (refl, refl, refl)
state_told (suc (suc (suc (suc zero)))) = (refl, refl, refl)
state_told (suc (suc (suc (suc (suc zero))))) = (refl, refl, refl)
state_told (suc (suc (suc (suc (suc (suc zero)))))) = (refl, refl, refl)
state_told (suc (suc (suc (suc (suc (suc (suc zero))))))) = (refl, refl, refl)
state_told (suc (suc (suc (suc (suc (suc (suc (suc zero)))))))) = (refl, refl, refl)
state_told (suc (suc (suc (suc (suc (suc (suc (suc (suc c))))))))) = high_refused (suc (suc (suc (suc (suc (suc (suc (suc (suc c))))))))) (lt-leb (suc (suc (suc (suc (suc (suc (suc (suc (suc c))))))))) 8 (omega arith))

abbrev pub MpsTold : ℕ → Option Mps → Type 0
MpsTold c None = leb c 2 ≡ false
MpsTold c (Some m) = (leb c 2 ≡ true) × (m ≡ mps_at c)

mps_told : (c : ℕ) → MpsTold c (mps_named c)
mps_told zero = (refl, refl)
mps_told (suc zero) = (refl, refl)
mps_told (suc (suc zero)) = (refl, refl)
mps_told (suc (suc (suc c))) = lt-leb (suc (suc (suc c))) 2 (omega arith)

pub state_tells : (c : ℕ) (s : Option State) → s ≡ state_named c → StateTold c s
state_tells c s e = subst (StateTold c) (sym e) (state_told c)

pub mps_tells : (c : ℕ) (m : Option Mps) → m ≡ mps_named c → MpsTold c m
mps_tells c m e = subst (MpsTold c) (sym e) (mps_told c)

not_both : (a b c : Bool) → b && c ≡ false → a && b && c ≡ false
not_both a b c h = and_assoc a b c ∙ ap (λ (x : Bool). a && x) h ∙ and-false a

pub no_state : (r : List ℕ) → leb 1 (at r 2) && leb (at r 2) 8 ≡ false → well_formed r ≡ false
unfolding well_formed
no_state r h = rw (not_both (eqb (at r 0) 76 && eqb (at r 1) 78) (leb 1 (at r 2)) (leb (at r 2) 8) h)

pub no_mps : (r : List ℕ) → leb (at r 4) 2 ≡ false → well_formed r ≡ false
unfolding well_formed
no_mps r h = simp (h, and-false)

-- the tests of n1 and of the two zeros, as the code has them
n1_tested : (a b : ℕ) → not (eqb a 0) || not (eqb b 0) ≡ leb 1 (two a b)
n1_tested a b = grind (arith, nat_tests)

zeros_tested : (a b : ℕ) → eqb (a + 256 * b) 0 ≡ (eqb a 0 && eqb b 0)
zeros_tested a b = grind (arith, nat_tests)

-- and their order
reordered : (p a b c d e f g h i j k : Bool) → p && a && f && c && g && b && i && (j && k) && d && e && h ≡ p && a && b && c && d && e && f && g && h && i && j && k
reordered p a b c d e f g h i j k = grind (arith, nat_tests)

pub the_rest : (r : List ℕ) → leb 1 (at r 2) ≡ true → leb (at r 2) 8 ≡ true → leb (at r 4) 2 ≡ true → rest_formed r ≡ well_formed r
unfolding well_formed rest_formed
the_rest r h k m =
    rw (n1_tested (at r 14) (at r 15), zeros_tested (at r 18) (at r 19))
    (reordered (eqb (at r 0) 76 && eqb (at r 1) 78) (leb (at r 3) 3) (leb (at r 5) 1) (leb (at r 6) 7) (leb (at r 7) 1)
    (eqb (at r 7) 1 || eqb (at r 8) 0 && eqb (at r 9) 0 && eqb (at r 10) 0) (eqb (at r 11) 0) (leb 1 (two (at r 14) (at r 15))) (leb (at r 16) 1) (none_or_status (at r 17))
    (eqb (at r 18) 0) (eqb (at r 19) 0)
    ∙ simp (h, k, m, and-true))

-- what octets are as a link's record, by their length and by what was decoded and tested of them
pub otherwise_long : (r : List ℕ) → length r ≢ 20 → slot_of r ≡ refused REFUSED-RECORD
unfolding slot_of
otherwise_long r n = rw (ne_eqb (length r) 20 n)

pub without_state : (r : List ℕ) → length r ≡ 20 → state_named (at r 2) ≡ None → slot_of r ≡ refused REFUSED-RECORD
unfolding slot_of
without_state r n h = rw (no_state r (state_tells (at r 2) None (sym h)), and-false)

pub without_mps : (r : List ℕ) → length r ≡ 20 → mps_named (at r 4) ≡ None → slot_of r ≡ refused REFUSED-RECORD
unfolding slot_of
without_mps r n h = rw (no_mps r (mps_tells (at r 4) None (sym h)), and-false)

with_both : (r : List ℕ) (s : Option State) (m : Option Mps) (b : Bool) → length r ≡ 20 → state_named (at r 2) ≡ s → mps_named (at r 4) ≡ m → s ≢ None → m ≢ None →
    rest_formed r ≡ b → slot_of r ≡ cond b (accepted (link_of r)) (refused REFUSED-RECORD)
unfolding slot_of
with_both r None m b n h k x y e = absurd (x refl)
with_both r (Some s) None b n h k x y e = absurd (y refl)
with_both r (Some s) (Some m) b n h k x y e =
    let p = state_tells (at r 2) (Some s) (sym h) in
    let q = mps_tells (at r 4) (Some m) (sym k) in
    rw (← the_rest r p.0 p.1 q.0, e, eq-eqb (length r) 20 n)

pub with_the_rest : (r : List ℕ) → length r ≡ 20 → state_named (at r 2) ≢ None → mps_named (at r 4) ≢ None → rest_formed r ≡ true → slot_of r ≡ accepted (link_of r)
with_the_rest r n h k e = with_both r (state_named (at r 2)) (mps_named (at r 4)) true n refl refl h k e

pub without_the_rest : (r : List ℕ) → length r ≡ 20 → state_named (at r 2) ≢ None → mps_named (at r 4) ≢ None → rest_formed r ≡ false → slot_of r ≡ refused REFUSED-RECORD
without_the_rest r n h k e = with_both r (state_named (at r 2)) (mps_named (at r 4)) false n refl refl h k e

-- what `read_link` is proved by
pub ruleset reading = (otherwise_long, without_state, without_mps, with_the_rest, without_the_rest)
