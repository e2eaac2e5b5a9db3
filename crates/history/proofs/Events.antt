-- What the octets of an accepted event say of the row that it meets: the mark is of the row's sort. Assumes nothing.
use mathlib.Core.Path.{◌≡◌, refl, sym, subst}
use mathlib.Core.Bool.{Bool, true, false, cond, false≢true, true≢false}
use mathlib.Core.List.{List, [], ◌∷◌}
use Prim.Native.Nat.{ℕ, ◌≤◌}
use native.Mathlib.Omega.{arith}
use lib.Dec.{eqb, leb}
use lib.ListN.{length}
use borrow.Author.Tests.{eqb-true, eqb-false, leb-true, not-false}
use Rattle.unit.specs.declared.Arrived.{Arrived}
use Rattle.unit.specs.Unit.{arrived}
use Rattle.table6.specs.EventCodes.{MESSAGE-FOR-TRANSMISSION, DATA-indication, T3-expired}
use Rattle.link.specs.declared.Num.{Num}
use Rattle.link.specs.declared.Event.{Event}
use Rattle.link.specs.Stored.{data_row_of, view_of}
use Rattle.event.specs.Frame.{EV, code_at, param_at, number_at, length_at, message_of}
use Rattle.event.specs.EventRecord.{carried, events, Coded, among, coded_at, coded_in, said, unknown, event_of, fields_in, Each}
use Rattle.unit.specs.Checks.{passed, first}
use Rattle.unit.proofs.Checks.{clear}
use Rattle.event.specs.Fields.{fields, out_of_range, field_checks}
use Rattle.event.proofs.Frame.{message_length}
use Rattle.history.proofs.Walk.{Kind, Of}
use Rattle.history.proofs.Table.{Sort, plain, sort_at}
use Rattle.history.proofs.Calls.{Passed}

infixr 5 ◌&◌
abbrev ◌&◌ : {A B : Type 0} → A → B → A × B
a & b = (a, b)

-- A sort is true of an event: of its code, parameter and what arrived, C1, and the parameter that the cell sees.
pub record Told (s : Sort) (c p : ℕ) (a : Arrived) (c1 seen : ℕ) : Type 0 where
  pub mark : Of s.mark c a
  pub zero : s.zero ≡ true → c1 ≡ 0
  pub above : s.above ≡ true → 1 ≤ c1
  pub field : s.field ≡ true → seen ≡ p
  pub long : s.long ≡ true → a ≡ Arrived.Long

never : {A : Type 0} → false ≡ true → A
never e = absurd (false≢true e)

plainly : {k : Kind} {c p : ℕ} {a : Arrived} {c1 seen : ℕ} → Of k c a → Told (plain k) c p a c1 seen
plainly m =
    record { mark = m; zero = never; above = never; field = never; long = never }

module _ (p : ℕ) (n : Num) (len : ℕ) (a : Arrived) (c1 : ℕ) where
  abbrev pub Fits : ℕ → Coded → Type 0
  Fits c Coded.Unknown = Unit {0}
  Fits c (Coded.Of x) = (c ≡ MESSAGE-FOR-TRANSMISSION → a ≡ Arrived.Long) → Told (sort_at (view_of x c1).0) c p a c1 (view_of x c1).1

  by_code : (c : ℕ) (xs : List Event) → Each (λ x. Fits (carried x).code (Coded.Of x)) xs → Fits c (among c xs)
  by_code c [] k = tt
  by_code c (x ∷ xs) k = by (eqb c (carried x).code) refl (by_code c xs k.1) where
    by : (b : Bool) → eqb c (carried x).code ≡ b → Fits c (among c xs) → Fits c (cond b (Coded.Of x) (among c xs))
    by true e m = subst (λ (i : ℕ). Fits i (Coded.Of x)) (sym (eqb-true c (carried x).code e)) k.0
    by false e m = m

  by_arrived : (b : Arrived) → Told (sort_at (data_row_of b)) DATA-indication p b c1 0
  by_arrived Arrived.INS = plainly (refl, refl)
  by_arrived Arrived.NM = plainly (refl, refl)
  by_arrived (Arrived.Other status) = plainly (refl, refl)
  by_arrived Arrived.Short = plainly (refl, refl)
  by_arrived Arrived.Long = plainly (refl, refl)

  by_count : (b : Bool) → eqb c1 0 ≡ b → Told (sort_at (cond b 34 33)) T3-expired p a c1 0
  by_count true e =
      record { mark = refl; zero = λ x. eqb-true c1 0 e; above = never; field = never; long = never }
  by_count false e =
      record { mark = refl; zero = never; above = λ x. omega (arith, eqb-false c1 0 e); field = never; long = never }

  comes_up : {k : Kind} {c : ℕ} → Of k c a → Told (record { mark = k; zero = false; above = false; field = true; long = false }) c p a c1 p
  comes_up m =
      record { mark = m; zero = never; above = never; field = λ x. refl; long = never }

  -- in the order of document 01's codes
  each_code : Each (λ x. Fits (carried x).code (Coded.Of x)) (events p n len a)
  each_code =
      (λ w. record { mark = refl; zero = never; above = never; field = never; long = λ x. w refl })  -- MESSAGE_FOR_TRANSMISSION
      & (λ w. plainly refl)  -- EMERGENCY
      & (λ w. plainly refl)  -- EMERGENCY_CEASES
      & (λ w. plainly refl)  -- STOP
      & (λ w. plainly refl)  -- START
      & (λ w. plainly refl)  -- RETRIEVE_BSNT
      & (λ w. plainly refl)  -- RETRIEVAL_REQUEST_AND_FSNC
      & (λ w. plainly refl)  -- FLUSH_BUFFERS
      & (λ w. plainly refl)  -- CONTINUE
      & (λ w. comes_up refl)  -- ESTABLISH-indication
      & (λ w. comes_up refl)  -- ESTABLISH-confirm
      & (λ w. plainly refl)  -- RELEASE-indication
      & (λ w. plainly refl)  -- RELEASE-confirm
      & (λ w. by_arrived a)  -- DATA
      & (λ w. plainly refl)  -- RESYNC
      & (λ w. plainly refl)  -- RECOVER
      & (λ w. plainly refl)  -- UNITDATA
      & (λ w. plainly refl)  -- RETRIEVE
      & (λ w. plainly refl)  -- RETRIEVE_COMPLETE
      & (λ w. plainly refl)  -- PROVING_UNSUCCESSFUL
      & (λ w. plainly refl)  -- RELEASE
      & (λ w. plainly refl)  -- outage
      & (λ w. plainly refl)  -- recovered
      & (λ w. plainly refl)  -- FORCE_PROVING
      & (λ w. plainly refl)  -- FORCE_EMERGENCY
      & (λ w. plainly refl)  -- CLEAR_FORCE_MODES
      & (λ w. plainly refl)  -- congestion
      & (λ w. plainly refl)  -- congestion ceased
      & (λ w. plainly refl)  -- T1
      & (λ w. plainly refl)  -- T2
      & (λ w. by_count (eqb c1 0) refl)  -- T3
      & tt

  pub fits : (c : ℕ) → Fits c (coded_at c p n len a)
  unfolding coded_at
  fits c = by_code c (events p n len a) each_code

-- OCTETS. A long message is no unit.
pub long_message : (m : List ℕ) → 5 ≤ length m → arrived m ≡ Arrived.Long
unfolding arrived
long_message [] h = absurd (omega arith)
long_message (a ∷ []) h = absurd (omega arith)
long_message (a ∷ b ∷ []) h = absurd (omega arith)
long_message (a ∷ b ∷ c ∷ []) h = absurd (omega arith)
long_message (a ∷ b ∷ c ∷ d ∷ []) h = absurd (omega arith)
long_message (a ∷ b ∷ c ∷ d ∷ e ∷ m) h = refl

user_message : (p : ℕ) (n : Num) (len : ℕ) → first (field_checks MESSAGE-FOR-TRANSMISSION (fields p n len)) ≡ passed → 5 ≤ len
unfolding out_of_range
user_message p n len h = leb-true 5 len (not-false (leb 5 len) (clear (field_checks MESSAGE-FOR-TRANSMISSION (fields p n len)) h).1.1.1.1.1.0)

-- an event that is taken is of the sort of the row that it meets
module _ (e : List ℕ) (p : Passed e) (c1 : ℕ) where
  long_if_user : code_at e ≡ MESSAGE-FOR-TRANSMISSION → arrived (message_of e) ≡ Arrived.Long
  long_if_user i =
      let fit = subst (λ (c : ℕ). first (field_checks c (fields_in e)) ≡ passed) i p.fits in
      long_message (message_of e) (omega (arith, user_message (param_at e) (number_at e) (length_at e) fit, message_length EV e p.sound))

  by_coded : (x : Coded) → unknown x ≡ false → Fits (param_at e) (number_at e) (length_at e) (arrived (message_of e)) c1 (code_at e) x →
      Told (sort_at (view_of (said x) c1).0) (code_at e) (param_at e) (arrived (message_of e)) c1 (view_of (said x) c1).1
  by_coded Coded.Unknown k f = absurd (true≢false k)
  by_coded (Coded.Of x) k f = f long_if_user

  pub sorted : Told (sort_at (view_of (event_of e) c1).0) (code_at e) (param_at e) (arrived (message_of e)) c1 (view_of (event_of e) c1).1
  sorted = by_coded (coded_in e) p.known (fits (param_at e) (number_at e) (length_at e) (arrived (message_of e)) c1 (code_at e))
