-- The event record's round trips. Assumes nothing.
use Prim.Native.Nat.{ℕ, ◌≤◌}
use native.Mathlib.Omega.{arith}
use mathlib.Core.Path.{◌≡◌, refl, sym, ap, subst, ◌∙◌}
use mathlib.Core.Bool.{Bool, true, false, cond, not, ◌&&◌, ◌||◌, true≢false}
use mathlib.Core.List.{List, [], ◌∷◌}
use Rattle.std.proofs.Common.{Result, Ok, Err, MatchResult, IsErrAnd}
use lib.Dec.{eqb, leb}
use lib.ListN.{length}
use borrow.Author.Tests.{leb-false, eqb-true, ne_eqb, not-false, not-true}
use Rattle.table6.specs.RefusalCodes.{REFUSED-CODE, REFUSED-FRAME}
use Rattle.unit.specs.declared.Arrived.{Arrived}
use Rattle.unit.specs.Unit.{arrived, none_or_status}
use Rattle.unit.specs.Checks.{Verdict, passed, refused, first}
use Rattle.unit.proofs.Checks.{clear}
use Rattle.table6.specs.EventCodes.{MESSAGE-FOR-TRANSMISSION, EMERGENCY, EMERGENCY-CEASES, STOP, START, RETRIEVE-BSNT, RETRIEVAL-REQUEST-AND-FSNC, FLUSH-BUFFERS, CONTINUE}
use Rattle.table6.specs.EventCodes.{ESTABLISH-indication, ESTABLISH-confirm, RELEASE-indication, RELEASE-confirm, DATA-indication, RESYNC-indication, RECOVER-indication}
use Rattle.table6.specs.EventCodes.{UNITDATA-indication, RETRIEVE-indication, RETRIEVE-COMPLETE-indication}
use Rattle.table6.specs.EventCodes.{PROVING-UNSUCCESSFUL, RELEASE, OUTAGE, RECOVERED, FORCE-PROVING, FORCE-EMERGENCY, CLEAR-FORCE-MODES, CONGESTION, CONGESTION-CEASED}
use Rattle.table6.specs.EventCodes.{T1-expired, T2-expired, T3-expired}
use Rattle.table6.proofs.Every.{left, right}
use Rattle.link.specs.declared.Num.{Num}
use Rattle.link.specs.declared.Event.{Event}
use Rattle.link.specs.declared.Event.TheVariants as event
use Rattle.link.specs.Signal.{num, none}
use Rattle.link.specs.Stored.{bare_view, view_of, number_in}
use Rattle.event.specs.declared.Unread.{Unread}
use Rattle.event.specs.declared.Fault.{Fault}
use Rattle.event.specs.declared.Look.{Look}
use Rattle.octet.specs.Octets.{at}
use Rattle.octet.proofs.Branches.{neither}
use Rattle.event.specs.Frame.{EV, length_at, link_at, number_at, message_of, code_at, param_at, written}
use Rattle.event.specs.Fields.{is_zero, is_source, fields, not_carried, out_of_range, field_checks}
use Rattle.event.specs.EventRecord.{framed, events, Coded, among, Each, coded_at, coded_in, said, event_of, unknown, fields_in, Refused, ◌at_place◌}
use Rattle.event.specs.EventRecord.{reading, fitting, saying, fields_of, reading_of, Holds, Carried, carrying, carried, Rewritten, Reread}
use Rattle.event.specs.Look.{Seen, faulty}
use Rattle.event.proofs.Fields.{has_parameter, has_number, parameter_not_carried, number_not_carried, source_out_of_range}
use Rattle.event.proofs.Frame.{frame_rewritten, frame_reread, two_back}

-- WHAT A READING TELLS of the tests in it: whether the frame is sound, what the code says, and whether its fields pass

abbrev pub Told : Result (Unit {0}) Unread → Bool → Coded → Verdict Fault → Type 0
Told (Ok fits) f x v = (f ≡ true) × (unknown x ≡ false) × (v ≡ passed)
Told (Err Unread.BadFrame) f x v = f ≡ false
Told (Err Unread.UnknownCode) f x v = (f ≡ true) × (unknown x ≡ true)
Told (Err (Unread.Misfit g)) f x v = (f ≡ true) × (unknown x ≡ false) × (v ≡ refused g)

-- the reading of an answer
abbrev fault_of : Refused → Fault
fault_of r = cond (eqb r.number 10) (Fault.NotCarried r.place) (cond (eqb r.number 11) (Fault.OutOfRange r.place) (Fault.Short r.place))

abbrev back : Verdict Refused → Result (Unit {0}) Unread
back (refused r) = Err (cond (eqb r.number 2) Unread.BadFrame (cond (eqb r.number 3) Unread.UnknownCode (Unread.Misfit (fault_of r))))
back passed = Ok tt

back_is : (r : Result (Unit {0}) Unread) → back (reading r) ≡ r
back_is (Ok fits) = refl
back_is (Err Unread.BadFrame) = refl
back_is (Err Unread.UnknownCode) = refl
back_is (Err (Unread.Misfit (Fault.NotCarried q))) = refl
back_is (Err (Unread.Misfit (Fault.OutOfRange q))) = refl
back_is (Err (Unread.Misfit (Fault.Short q))) = refl

pub one_reading : (r s : Result (Unit {0}) Unread) → reading r ≡ reading s → r ≡ s
one_reading r s h = sym (back_is r) ∙ ap back h ∙ back_is s

tells : (f : Bool) (x : Coded) (v : Verdict Fault) → Told (back (cond f (saying x v) (refused (REFUSED-FRAME at_place 0)))) f x v
tells false x v = refl
tells true Coded.Unknown v = (refl, refl)
tells true (Coded.Of x) (refused (Fault.NotCarried q)) = (refl, refl, refl)
tells true (Coded.Of x) (refused (Fault.OutOfRange q)) = (refl, refl, refl)
tells true (Coded.Of x) (refused (Fault.Short q)) = (refl, refl, refl)
tells true (Coded.Of x) passed = (refl, refl, refl)

abbrev pub ToldOf : List ℕ → Result (Unit {0}) Unread → Type 0
ToldOf e r = Told r (framed e) (coded_in e) (first (field_checks (code_at e) (fields_in e)))

pub reading_tells : (e : List ℕ) (r : Result (Unit {0}) Unread) → reading r ≡ reading_of e → ToldOf e r
unfolding reading_of fields_of
reading_tells e r h =
    subst (ToldOf e) (ap back (sym h) ∙ back_is r) (tells (framed e) (coded_in e) (first (field_checks (code_at e) (fields_in e))))

-- WHAT A LOOK AT A CODE TELLS

by_look : (e : List ℕ) (b : Bool) → unknown (coded_in e) ≡ false → (b ≡ true → first (field_checks (code_at e) (fields_in e)) ≡ passed) → Seen e (cond b Look.Fits Look.Closer)
by_look e true h p = (h, p refl)
by_look e false h p = h

-- the code is known
abbrev Known : List ℕ → ℕ → Type 0
Known e c = unknown (coded_at c (param_at e) (number_at e) (length_at e) (arrived (message_of e))) ≡ false

-- by a test which, where it holds, has all fields pass
seen_at : (e : List ℕ) (c : ℕ) (b : Bool) {r : Look} → at e 4 ≡ c → Known e c → (b ≡ true → first (field_checks c (fields_in e)) ≡ passed) → r ≡ cond b Look.Fits Look.Closer → Seen e r
seen_at e c b k u p h = subst (Seen e) (sym h) (by_look e b (rw k u) (λ t. rw k (p t)))

-- three tests that are left of the six, and those three asked in another order
abbrev three_left : Bool → Bool → Bool → Fault → Fault → Fault → Verdict Fault
three_left x y z f g h = cond x (refused f) (cond y (refused g) (cond z (refused h) passed))

none_left : (x y z : Bool) (f g h : Fault) → x ≡ false → y ≡ false → z ≡ false → three_left x y z f g h ≡ passed
none_left x y z f g h p q r = rw (p, q, r)

none_of : (x y z : Bool) → not (x || y || z) ≡ true → (x ≡ false) × (y ≡ false) × (z ≡ false)
none_of x y z h =
    let g = neither (x || y) z (not-true _ h) in
    let f = neither x y g.0 in
    (f.0, f.1, g.1)

pub bare_at : (e : List ℕ) (c : ℕ) {r : Look} → at e 4 ≡ c → Known e c →
    first (field_checks c (fields_in e)) ≡ three_left (leb 1 (param_at e)) (not (is_zero (number_at e))) (leb 1 (length_at e)) (Fault.NotCarried 5) (Fault.NotCarried 6) (Fault.NotCarried 10) →
    r ≡ cond (not (leb 1 (length_at e) || not (is_zero (number_at e)) || leb 1 (param_at e))) Look.Fits Look.Closer → Seen e r
bare_at e c k u f h =
    let x = leb 1 (param_at e) in
    let y = not (is_zero (number_at e)) in
    let z = leb 1 (length_at e) in
    seen_at e c (not (z || y || x)) k u (λ t. let g = none_of z y x t in f ∙ none_left x y z (Fault.NotCarried 5) (Fault.NotCarried 6) (Fault.NotCarried 10) g.2 g.1 g.0) h

pub established_at : (e : List ℕ) (c : ℕ) {r : Look} → at e 4 ≡ c → Known e c →
    first (field_checks c (fields_in e)) ≡ three_left (not (is_zero (number_at e))) (leb 1 (length_at e)) (not (none_or_status (param_at e))) (Fault.NotCarried 6) (Fault.NotCarried 10) (Fault.OutOfRange 5) →
    r ≡ cond (not (leb 1 (length_at e) || not (is_zero (number_at e)) || not (none_or_status (param_at e)))) Look.Fits Look.Closer → Seen e r
established_at e c k u f h =
    let x = not (is_zero (number_at e)) in
    let y = leb 1 (length_at e) in
    let z = not (none_or_status (param_at e)) in
    seen_at e c (not (y || x || z)) k u (λ t. let g = none_of y x z t in f ∙ none_left x y z (Fault.NotCarried 6) (Fault.NotCarried 10) (Fault.OutOfRange 5) g.1 g.0 g.2) h

-- no number is the far user
far_user : (n : Num) → not (is_zero n) ≡ false → not (is_source n) ≡ false
far_user n h =
    let w = not-false (is_zero n) h in
    let c = eqb-true n.c 0 (right (eqb n.a 0 && eqb n.b 0) (eqb n.c 0) w) in
    rw (left (eqb n.a 0 && eqb n.b 0) (eqb n.c 0) w, c)

pub release_at : (e : List ℕ) {r : Look} → at e 4 ≡ RELEASE-indication → r ≡ cond (not (leb 1 (length_at e) || not (is_zero (number_at e)) || not (none_or_status (param_at e)))) Look.Fits Look.Closer → Seen e r
unfolding coded_at not_carried out_of_range
release_at e k h =
    let x = leb 1 (length_at e) in
    let y = not (is_zero (number_at e)) in
    let z = not (none_or_status (param_at e)) in
    seen_at e RELEASE-indication (not (x || y || z)) k refl
    (λ t. let g = none_of x y z t in none_left x z (not (is_source (number_at e))) (Fault.NotCarried 10) (Fault.OutOfRange 5) (Fault.OutOfRange 6) g.0 g.2 (far_user (number_at e) g.1)) h

pub congestion_at : (e : List ℕ) {r : Look} → at e 4 ≡ CONGESTION → r ≡ cond (not (leb 1 (length_at e) || not (is_zero (number_at e)) || not (leb (param_at e) 3))) Look.Fits Look.Closer → Seen e r
unfolding coded_at not_carried out_of_range
congestion_at e k h =
    let x = leb 1 (length_at e) in
    let y = not (is_zero (number_at e)) in
    let z = not (leb (param_at e) 3) in
    seen_at e CONGESTION (not (x || y || z)) k refl (λ t. let g = none_of x y z t in none_left y x z (Fault.NotCarried 6) (Fault.NotCarried 10) (Fault.OutOfRange 5) g.1 g.0 g.2) h

pub message_at : (e : List ℕ) {r : Look} → at e 4 ≡ MESSAGE-FOR-TRANSMISSION → r ≡ cond (not (not (is_zero (number_at e)) || leb 1 (param_at e) || not (leb 5 (length_at e)))) Look.Fits Look.Closer → Seen e r
unfolding coded_at not_carried out_of_range
message_at e k h =
    let x = leb 1 (param_at e) in
    let y = not (is_zero (number_at e)) in
    let z = not (leb 5 (length_at e)) in
    seen_at e MESSAGE-FOR-TRANSMISSION (not (y || x || z)) k refl (λ t. let g = none_of y x z t in none_left x y z (Fault.NotCarried 5) (Fault.NotCarried 6) (Fault.Short 10) g.1 g.0 g.2) h

-- two tests alone
pub retrieval_at : (e : List ℕ) {r : Look} → at e 4 ≡ RETRIEVAL-REQUEST-AND-FSNC → r ≡ cond (not (leb 1 (length_at e) || leb 1 (param_at e))) Look.Fits Look.Closer → Seen e r
unfolding coded_at not_carried out_of_range
retrieval_at e k h =
    let x = leb 1 (param_at e) in
    let y = leb 1 (length_at e) in
    seen_at e RETRIEVAL-REQUEST-AND-FSNC (not (y || x)) k refl (λ t. let g = neither y x (not-true (y || x) t) in rw (g.0, g.1)) h

pub unnumbered_at : (e : List ℕ) (c : ℕ) {r : Look} → at e 4 ≡ c → Known e c →
    first (field_checks c (fields_in e)) ≡ cond (leb 1 (param_at e)) (refused (Fault.NotCarried 5)) (cond (not (is_zero (number_at e))) (refused (Fault.NotCarried 6)) passed) →
    r ≡ cond (not (not (is_zero (number_at e)) || leb 1 (param_at e))) Look.Fits Look.Closer → Seen e r
unnumbered_at e c k u f h =
    let x = leb 1 (param_at e) in
    let y = not (is_zero (number_at e)) in
    seen_at e c (not (y || x)) k u (λ t. let g = neither y x (not-true (y || x) t) in f ∙ rw (g.0, g.1)) h

pub data_at : (e : List ℕ) {r : Look} → at e 4 ≡ DATA-indication → r ≡ cond (not (leb 1 (param_at e))) Look.Fits Look.Closer → Seen e r
unfolding coded_at not_carried out_of_range
data_at e k h = seen_at e DATA-indication (not (leb 1 (param_at e))) k refl (λ t. rw (not-true (leb 1 (param_at e)) t)) h

-- WHAT A LOOK AT THE CODE AND AT THE FIELDS COMES TO

told_unknown : (x : Coded) (v : Verdict Fault) → unknown x ≡ true → refused (REFUSED-CODE at_place 0) ≡ saying x v
told_unknown Coded.Unknown v h = refl
told_unknown (Coded.Of x) v h = absurd (true≢false (sym h))

told_known : (x : Coded) (v : Verdict Fault) → unknown x ≡ false → fitting v ≡ saying x v
told_known Coded.Unknown v h = absurd (true≢false h)
told_known (Coded.Of x) v h = refl

pub fields_unknown : (e : List ℕ) → unknown (coded_in e) ≡ true → refused (REFUSED-CODE at_place 0) ≡ fields_of e
unfolding fields_of
fields_unknown e h = told_unknown (coded_in e) (first (field_checks (code_at e) (fields_in e))) h

pub fields_known : (e : List ℕ) → unknown (coded_in e) ≡ false → fitting (first (field_checks (code_at e) (fields_in e))) ≡ fields_of e
unfolding fields_of
fields_known e h = told_known (coded_in e) (first (field_checks (code_at e) (fields_in e))) h

pub fields_fit : (e : List ℕ) → Seen e Look.Fits → passed ≡ fields_of e
fields_fit e h = sym (ap fitting h.1) ∙ fields_known e h.0

-- a fault that is answered as a misfit is read as that fault
pub told_misfit : (r : Result (Unit {0}) Fault) (s : Result (Unit {0}) Unread) → MatchResult r (λ x. s ≡ Ok x) (λ f. IsErrAnd s (λ u. u ≡ Unread.Misfit f)) → reading s ≡ fitting (faulty r)
told_misfit (Ok fits) s h = ap reading h
told_misfit (Err f) (Ok fits) h = absurd h
told_misfit (Err f) (Err u) h = ap (λ (v : Unread). reading (Err v)) h

-- none of some numbers, the last first
abbrev pub NoneOf : List ℕ → ℕ → Type 0
NoneOf [] c = Unit {0}
NoneOf (k ∷ ks) c = NoneOf ks c × (c ≡ k → ⊥)

pub no_more : (c p : ℕ) (n : Num) (len : ℕ) (a : Arrived) →
    NoneOf (T3-expired ∷ T2-expired ∷ T1-expired ∷ CONGESTION-CEASED ∷ CONGESTION ∷ CLEAR-FORCE-MODES ∷ FORCE-EMERGENCY ∷ FORCE-PROVING ∷ RECOVERED ∷ OUTAGE ∷ RELEASE ∷ PROVING-UNSUCCESSFUL ∷ RETRIEVE-COMPLETE-indication ∷ RETRIEVE-indication ∷ UNITDATA-indication ∷ RECOVER-indication ∷ RESYNC-indication ∷ DATA-indication ∷ RELEASE-confirm ∷ RELEASE-indication ∷ ESTABLISH-confirm ∷ ESTABLISH-indication ∷ CONTINUE ∷ FLUSH-BUFFERS ∷ RETRIEVAL-REQUEST-AND-FSNC ∷ RETRIEVE-BSNT ∷ START ∷ STOP ∷ EMERGENCY-CEASES ∷ EMERGENCY ∷ MESSAGE-FOR-TRANSMISSION ∷ []) c → coded_at c p n len a ≡ Coded.Unknown
unfolding coded_at
no_more c p n len a r =
    simp (
      ne_eqb _ _ r.0.0.0.0.0.0.0.0.0.0.0.0.0.0.0.0.0.0.0.0.0.0.0.0.0.0.0.0.0.0.1,
      ne_eqb _ _ r.0.0.0.0.0.0.0.0.0.0.0.0.0.0.0.0.0.0.0.0.0.0.0.0.0.0.0.0.0.1,
      ne_eqb _ _ r.0.0.0.0.0.0.0.0.0.0.0.0.0.0.0.0.0.0.0.0.0.0.0.0.0.0.0.0.1,
      ne_eqb _ _ r.0.0.0.0.0.0.0.0.0.0.0.0.0.0.0.0.0.0.0.0.0.0.0.0.0.0.0.1,
      ne_eqb _ _ r.0.0.0.0.0.0.0.0.0.0.0.0.0.0.0.0.0.0.0.0.0.0.0.0.0.0.1,
      ne_eqb _ _ r.0.0.0.0.0.0.0.0.0.0.0.0.0.0.0.0.0.0.0.0.0.0.0.0.0.1,
      ne_eqb _ _ r.0.0.0.0.0.0.0.0.0.0.0.0.0.0.0.0.0.0.0.0.0.0.0.0.1,
      ne_eqb _ _ r.0.0.0.0.0.0.0.0.0.0.0.0.0.0.0.0.0.0.0.0.0.0.0.1,
      ne_eqb _ _ r.0.0.0.0.0.0.0.0.0.0.0.0.0.0.0.0.0.0.0.0.0.0.1,
      ne_eqb _ _ r.0.0.0.0.0.0.0.0.0.0.0.0.0.0.0.0.0.0.0.0.0.1,
      ne_eqb _ _ r.0.0.0.0.0.0.0.0.0.0.0.0.0.0.0.0.0.0.0.0.1,
      ne_eqb _ _ r.0.0.0.0.0.0.0.0.0.0.0.0.0.0.0.0.0.0.0.1,
      ne_eqb _ _ r.0.0.0.0.0.0.0.0.0.0.0.0.0.0.0.0.0.0.1,
      ne_eqb _ _ r.0.0.0.0.0.0.0.0.0.0.0.0.0.0.0.0.0.1,
      ne_eqb _ _ r.0.0.0.0.0.0.0.0.0.0.0.0.0.0.0.0.1,
      ne_eqb _ _ r.0.0.0.0.0.0.0.0.0.0.0.0.0.0.0.1,
      ne_eqb _ _ r.0.0.0.0.0.0.0.0.0.0.0.0.0.0.1,
      ne_eqb _ _ r.0.0.0.0.0.0.0.0.0.0.0.0.0.1,
      ne_eqb _ _ r.0.0.0.0.0.0.0.0.0.0.0.0.1,
      ne_eqb _ _ r.0.0.0.0.0.0.0.0.0.0.0.1,
      ne_eqb _ _ r.0.0.0.0.0.0.0.0.0.0.1,
      ne_eqb _ _ r.0.0.0.0.0.0.0.0.0.1,
      ne_eqb _ _ r.0.0.0.0.0.0.0.0.1,
      ne_eqb _ _ r.0.0.0.0.0.0.0.1,
      ne_eqb _ _ r.0.0.0.0.0.0.1,
      ne_eqb _ _ r.0.0.0.0.0.1,
      ne_eqb _ _ r.0.0.0.0.1,
      ne_eqb _ _ r.0.0.0.1,
      ne_eqb _ _ r.0.0.1,
      ne_eqb _ _ r.0.1,
      ne_eqb _ _ r.1,
    )

-- WHAT A CODE SAYS, of all codes at once

abbrev event_in : Event → Coded → Event
event_in d Coded.Unknown = d
event_in d (Coded.Of e) = e

pick : (P : ℕ → Event → Type 0) (c : ℕ) (y : Event) (others : Coded) {x : Event} (t : Bool) → eqb c (carried y).code ≡ t → P (carried y).code y → (others ≡ Coded.Of x → P c x) →
    cond t (Coded.Of y) others ≡ Coded.Of x → P c x
pick P c y others true e p rest h =
    subst (P c) (ap (event_in y) h) (subst (λ (k : ℕ). P k y) (sym (eqb-true c (carried y).code e)) p)
pick P c y others false e p rest h = rest h

of_events : (P : ℕ → Event → Type 0) (c : ℕ) (ys : List Event) {x : Event} → Each (λ (y : Event). P (carried y).code y) ys → among c ys ≡ Coded.Of x → P c x
of_events P c [] a h = absurd (true≢false (ap unknown h))
of_events P c (y ∷ ys) a h = pick P c y (among c ys) (eqb c (carried y).code) refl a.0 (of_events P c ys a.1) h

-- the number that a code's event keeps: the source of a release is its last octet
abbrev kept : ℕ → Num → Num
kept c n = cond (eqb c RELEASE-indication) (num 0 0 n.c) (cond (has_number c) n none)

abbrev Keeps : ℕ → Num → ℕ → Event → Type 0
Keeps p n c x = carried x ≡ carrying c (cond (has_parameter c) p 0) (kept c n)

keeps : (p : ℕ) (n : Num) (len : ℕ) (a : Arrived) → Each (λ (y : Event). Keeps p n (carried y).code y) (events p n len a)
keeps p n len a =
    (refl, (refl, (refl, (refl, (refl, (refl, (refl, (refl, (refl, (refl, (refl, (refl, (refl, (refl, (refl, (refl, (refl, (refl, (refl, (refl, (refl, (refl, (refl, (refl, (refl, (refl, (refl, (refl, (refl, (refl, (refl, tt)))))))))))))))))))))))))))))))

-- what a link sees of an event, in the number's place the source of a release, is what the event carries
abbrev seen : ℕ → Event → Carried
seen c1 x = let v = view_of x c1 in carrying (carried x).code v.1 (number_in v)

data_seen : (a : Arrived) (n : Num) (c1 : ℕ) → seen c1 (event.Data a n) ≡ carried (event.Data a n)
data_seen Arrived.INS n c1 = refl
data_seen Arrived.NM n c1 = refl
data_seen (Arrived.Other status) n c1 = refl
data_seen Arrived.Short n c1 = refl
data_seen Arrived.Long n c1 = refl

t3_number : (b : Bool) → number_in (bare_view (cond b 34 33)) ≡ none
t3_number true = refl
t3_number false = refl

all_seen : (c1 p : ℕ) (n : Num) (len : ℕ) (a : Arrived) → Each (λ (y : Event). seen c1 y ≡ carried y) (events p n len a)
all_seen c1 p n len a =
    (refl, (refl, (refl, (refl, (refl, (refl, (refl, (refl, (refl, (refl, (refl, (refl, (refl, (data_seen a n c1, (refl, (refl, (refl, (refl, (refl, (refl, (refl, (refl, (refl, (refl, (refl, (refl, (refl, (refl, (refl, (refl, (ap (carrying T3-expired 0) (t3_number (eqb c1 0)), tt)))))))))))))))))))))))))))))))

-- WHAT FITS

parameter : (t : Bool) (p : ℕ) → not t && leb 1 p ≡ false → cond t p 0 ≡ p
parameter true p h = refl
parameter false p h = omega (arith, leb-false 1 p h)

number : (t u : Bool) (n : Num) → not u && not (is_zero n) ≡ false → t && not (is_source n) ≡ false →
    cond t (num 0 0 n.c) (cond u n none) ≡ n
number true u n g h =
    let w = not-false (is_source n) h in
    let v = left (eqb n.a 0 && eqb n.b 0) (leb n.c 1) w in
    let a = sym (eqb-true n.a 0 (left (eqb n.a 0) (eqb n.b 0) v)) in
    let b = sym (eqb-true n.b 0 (right (eqb n.a 0) (eqb n.b 0) v)) in
    λ i. num (a i) (b i) n.c
number false true n g h = refl
number false false n g h =
    let w = not-false (is_zero n) g in
    let v = left (eqb n.a 0 && eqb n.b 0) (eqb n.c 0) w in
    let a = sym (eqb-true n.a 0 (left (eqb n.a 0) (eqb n.b 0) v)) in
    let b = sym (eqb-true n.b 0 (right (eqb n.a 0) (eqb n.b 0) v)) in
    let c = sym (eqb-true n.c 0 (right (eqb n.a 0 && eqb n.b 0) (eqb n.c 0) w)) in
    λ i. num (a i) (b i) (c i)

-- what fits is kept whole
whole : (c p : ℕ) (n : Num) (len : ℕ) → first (field_checks c (fields p n len)) ≡ passed → (cond (has_parameter c) p 0 ≡ p) × (kept c n ≡ n)
whole c p n len h =
    let k = clear (field_checks c (fields p n len)) h in
    (parameter (has_parameter c) p (parameter_not_carried c p ∙ k.0), number (eqb c RELEASE-indication) (has_number c) n (number_not_carried c n ∙ k.1.0) (source_out_of_range c n ∙ k.1.1.1.1.0))

-- WRITING WHAT WAS READ

known : (x : Coded) → unknown x ≡ false → x ≡ Coded.Of (said x)
known Coded.Unknown h = absurd (true≢false h)
known (Coded.Of x) h = refl

-- an event that fits carries what its octets have
module _ (e : List ℕ) (r : ToldOf e (Ok tt)) where
  coded_as : coded_in e ≡ Coded.Of (event_of e)
  coded_as = known (coded_in e) r.1

  abbrev events_in : List Event
  events_in = events (param_at e) (number_at e) (length_at e) (arrived (message_of e))

  fits_whole : carried (event_of e) ≡ carrying (code_at e) (param_at e) (number_at e)
  unfolding coded_at
  fits_whole =
      let w = whole (code_at e) (param_at e) (number_at e) (length_at e) r.2 in
      of_events (Keeps (param_at e) (number_at e)) (code_at e) events_in (keeps (param_at e) (number_at e) (length_at e) (arrived (message_of e))) coded_as ∙ (λ i. carrying (code_at e) (w.0 i) (w.1 i))

  -- and a link sees it so
  pub fits_seen : (c1 : ℕ) → seen c1 (event_of e) ≡ carrying (code_at e) (param_at e) (number_at e)
  unfolding coded_at
  fits_seen c1 = of_events (λ c x. seen c1 x ≡ carried x) (code_at e) events_in (all_seen c1 (param_at e) (number_at e) (length_at e) (arrived (message_of e))) coded_as ∙ fits_whole

pub rewritten : Rewritten
rewritten e l x o h =
    let r = reading_tells e (Ok tt) (sym h.fits) in
    let k = ap carried (sym h.event) ∙ fits_whole e r in
    (λ i. written EV (sym h.link i) (k i).code (k i).param (k i).num (message_of e)) ∙ frame_rewritten EV e o r.0

-- READING WHAT WAS WRITTEN

module _ (l c p : ℕ) (n : Num) (m : List ℕ) where
  says : coded_in (written EV l c p n m) ≡ coded_at c p n (length m) (arrived m)
  unfolding written
  says = rw (two_back (length m))

  names : link_at (written EV l c p n m) ≡ l
  unfolding written
  names = two_back l

  fits : {x : Event} → coded_at c p n (length m) (arrived m) ≡ Coded.Of x → first (field_checks c (fields p n (length m))) ≡ passed → fields_of (written EV l c p n m) ≡ passed
  unfolding fields_of written
  fits k f = rw (two_back (length m), k, f)

  row : {x : Event} → length m ≤ 4096 → coded_at c p n (length m) (arrived m) ≡ Coded.Of x → first (field_checks c (fields p n (length m))) ≡ passed → Holds (written EV l c p n m) l x
  unfolding reading_of
  row h k f = record { fits = rw (frame_reread EV l c p n m h) (fits k f); link = names; event = ap said (says ∙ k) }

each : {P Q : Event → Type 0} → ((x : Event) → P x → Q x) → (xs : List Event) → Each P xs → Each Q xs
each f [] a = tt
each f (x ∷ xs) a = (f x a.0, each f xs a.1)

-- no two events have one code
own : (p : ℕ) (n : Num) (len : ℕ) (a : Arrived) → Each (λ (x : Event). coded_at (carried x).code p n len a ≡ Coded.Of x) (events p n len a)
unfolding coded_at
own p n len a =
    (refl, (refl, (refl, (refl, (refl, (refl, (refl, (refl, (refl, (refl, (refl, (refl, (refl, (refl, (refl, (refl, (refl, (refl, (refl, (refl, (refl, (refl, (refl, (refl, (refl, (refl, (refl, (refl, (refl, (refl, (refl, tt)))))))))))))))))))))))))))))))

pub reread : Reread
reread l p n m h = each (λ x. row l (carried x).code p n m {x = x} h) (events p n (length m) (arrived m)) (own p n (length m) (arrived m))
