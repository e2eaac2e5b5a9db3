-- Request 2026-07 over every sequence of calls: ONE TEST OVER TABLE 6, with congestion behind the cells that lead to 2/10/3, computed; and what follows of the
-- flag, of the last field and of every proving unit. Assumes nothing.
use mathlib.Core.Path.{◌≡◌, refl, sym, ap, subst, ◌∙◌}
use mathlib.Core.Logic.{◌↔◌}
use mathlib.Core.Bool.{Bool, true, false, cond, not, ◌&&◌, ◌||◌, beq, false≢true, true≢false}
use mathlib.Core.List.{List, [], ◌∷◌, ◌++◌, map}
use Prim.Native.Nat.{ℕ, zero, suc}
use native.Mathlib.Omega.{arith}
use lib.Dec.{eqb}
use lib.ListN.{get_or}
use borrow.Author.Tests.{eqb-true, not-true}
use Rattle.unit.specs.declared.Arrived.{Arrived}
use Rattle.unit.specs.Unit.{unit_of, kind, arrived}
use Rattle.table6.specs.declared.State.{State}
use Rattle.table6.specs.declared.Facts.{Facts}
use Rattle.table6.specs.EventCodes.{MESSAGE-FOR-TRANSMISSION}
use Rattle.table6.specs.SignalCodes.{code}
use Rattle.table6.specs.Words.{2/10/3, is-2/10/3}
use Rattle.table6.specs.Cell.{Told, Act, cell, Choice, illegal, does, chosen}
use Rattle.table6.specs.Order.{signals}
use Rattle.table6.specs.Rows.{printed, Heading, rows, nowhere, heading}
use Rattle.table6.specs.Summary.{Op, keep, put, over, still, summary, Summed, refused, summed, sum}
use Rattle.table6.specs.Stored.{goes_on}
use Rattle.table6.specs.Every.{Test, in_printed}
use Rattle.table6.proofs.Every.{left, right, Holds, no_row, of_printed}
use Rattle.table6.proofs.Unfolded.{every_row}
use Rattle.link.specs.declared.Num.{Num}
use Rattle.link.specs.declared.Carries.{Carries}
use Rattle.link.specs.declared.Link.{Link}
use Rattle.link.specs.declared.Event.{Event}
use Rattle.link.specs.declared.Event.TheVariants as event
use Rattle.link.specs.Signal.{load}
use Rattle.link.specs.Stored.{view_of, meeting_of, facts_of, Given, given_by, meant_by}
use Rattle.link.specs.Step.{Meeting}
use Rattle.link.proofs.Performed.{outcome_of, choice_of, by_choice}
use Rattle.octet.specs.Octets.{at, bit}
use Rattle.record.specs.LinkRecord.{state_code, octets_of}
use Rattle.event.specs.Frame.{written, link_at, code_at, param_at, number_at, length_at, message_of}
use Rattle.event.specs.EventRecord.{carried, events, Coded, among, coded_at, said, unknown, event_of}
use Rattle.signal.specs.SignalRecord.{body_of, signal_octets}
use Rattle.step.specs.Step.{record_at}
use Rattle.history.specs.Calls.{World}
use Rattle.history.specs.History.{Mark, accepted, emitted, event_mark, signal_mark, with_signals, proving_sent, Somewhere, none, Connection, begun, history}
use Rattle.history.specs.Congestion.{Congested, flag_octet, CongestedFlag, release_sent, field_of, LatestRelease, last_octet, LastField, NeverInProving, Note7}
use Rattle.history.proofs.Flagged.{View, seen, view, last_sent, flagged, congested, latest_field, no_field, clear_units}
use Rattle.history.proofs.Calls.{Passed, Keeps, Invariant, Kept, after_each_call}
use Rattle.history.proofs.Events.{sorted}
use Rattle.history.proofs.Lawful.{implied}
use Rattle.history.proofs.Step.{beq_eq}

-- THE CODE OF A ROW'S EVENT. Document 01's codes in the order of the rows, and one test that says so.
abbrev codes : List ℕ
codes =
    1 ∷ 2 ∷ 3 ∷ 4 ∷ 5 ∷ 6 ∷ 7 ∷ 8 ∷ 9 ∷ 16 ∷ 17 ∷ 18 ∷ 19 ∷ 20 ∷ 20 ∷ 20 ∷ 20 ∷ 21 ∷ 22 ∷ 23 ∷ 24 ∷ 25 ∷ 32 ∷ 33 ∷ 34 ∷ 35 ∷ 36 ∷ 37 ∷ 38 ∷ 39 ∷ 40 ∷ 48 ∷ 49 ∷ 50 ∷ 50 ∷ []

abbrev code_of : ℕ → ℕ
code_of row = get_or codes row 0

abbrev agree : ℕ → List Event → Bool
agree c1 [] = true
agree c1 (x ∷ others) = eqb (code_of (view_of x c1).0) (carried x).code && agree c1 others

-- data meets a row by what arrived, and T3 by C1
by_count : (b : Bool) → eqb (code_of (cond b 34 33)) 50 && true ≡ true
by_count true = refl
by_count false = refl

all_agree : (c1 p : ℕ) (n : Num) (len : ℕ) (a : Arrived) → agree c1 (events p n len a) ≡ true
all_agree c1 p n len Arrived.NM = by_count (eqb c1 0)
all_agree c1 p n len Arrived.INS = by_count (eqb c1 0)
all_agree c1 p n len (Arrived.Other status) = by_count (eqb c1 0)
all_agree c1 p n len Arrived.Short = by_count (eqb c1 0)
all_agree c1 p n len Arrived.Long = by_count (eqb c1 0)

by_code : (c1 c : ℕ) (xs : List Event) → agree c1 xs ≡ true → unknown (among c xs) ≡ false → code_of (view_of (said (among c xs)) c1).0 ≡ c
by_code c1 c [] g k = absurd (true≢false k)
by_code c1 c (x ∷ xs) g k = by (by_code c1 c xs (right (eqb (code_of (view_of x c1).0) (carried x).code) _ g)) (eqb c (carried x).code) refl k where
  by : (unknown (among c xs) ≡ false → code_of (view_of (said (among c xs)) c1).0 ≡ c) → (b : Bool) → eqb c (carried x).code ≡ b →
      unknown (cond b (Coded.Of x) (among c xs)) ≡ false → code_of (view_of (said (cond b (Coded.Of x) (among c xs))) c1).0 ≡ c
  by m true e k = eqb-true (code_of (view_of x c1).0) (carried x).code (left _ (agree c1 xs) g) ∙ sym (eqb-true c (carried x).code e)
  by m false e k = m k

row_code : (e : List ℕ) → Passed e → (c1 : ℕ) → code_of (view_of (event_of e) c1).0 ≡ code_at e
unfolding coded_at
row_code e p c1 =
    let a = arrived (message_of e) in
    by_code c1 (code_at e) (events (param_at e) (number_at e) (length_at e) a) (all_agree c1 (param_at e) (number_at e) (length_at e) a) p.known

-- What arrived with an event, as far as its code tells: the user's own message is no unit.
abbrev own : ℕ → List ℕ → Arrived
own c e = cond (eqb c MESSAGE-FOR-TRANSMISSION) Arrived.Long (arrived (message_of e))

no_unit : (e : List ℕ) → Passed e → own (code_at e) e ≡ arrived (message_of e)
unfolding coded_at
no_unit e p = by (eqb (code_at e) MESSAGE-FOR-TRANSMISSION) refl where
  by : (b : Bool) → eqb (code_at e) MESSAGE-FOR-TRANSMISSION ≡ b → cond b Arrived.Long (arrived (message_of e)) ≡ arrived (message_of e)
  by true i =
      let is : event_of e ≡ event.Message = rw (eqb-true (code_at e) MESSAGE-FOR-TRANSMISSION i) in
      sym ((rw is at (sorted e p 0).long) refl)
  by false i = refl

-- A TEST OF EVERY CELL, by the code of its event and what the event does by itself
abbrev in_rows : (ℕ → List Act → Test) → List ℕ → List Heading → Bool
in_rows t [] [] = true
in_rows t [] (h ∷ hs) = false
in_rows t (c ∷ cs) [] = false
in_rows t (c ∷ cs) (h ∷ hs) = in_printed (t c h.arrives) [] h.row && in_rows t cs hs

module _ (s : State) (f : Facts) where
  of_rows : (t : ℕ → List Act → Test) (cs : List ℕ) (hs : List Heading) → in_rows t cs hs ≡ true → (row : ℕ) →
      Holds (t (get_or cs row 0) (get_or hs row nowhere).arrives s) [] (chosen f (cell (printed f (get_or hs row nowhere).row) s))
  of_rows t [] [] h row = rw (no_row f s) tt
  of_rows t [] (x ∷ hs) h row = absurd (false≢true h)
  of_rows t (c ∷ cs) [] h row = absurd (false≢true h)
  of_rows t (c ∷ cs) (x ∷ hs) h zero = of_printed (t c x.arrives) [] x.row (left (in_printed (t c x.arrives) [] x.row) (in_rows t cs hs) h) s f
  of_rows t (c ∷ cs) (x ∷ hs) h (suc row) = of_rows t cs hs (right (in_printed (t c x.arrives) [] x.row) (in_rows t cs hs) h) row

-- MARKS one behind the other, and what they make of something
abbrev along : {A : Type 0} → (Mark → A → A) → List Mark → A → A
along f [] x = x
along f (m ∷ ms) x = along f ms (f m x)

-- the field of the latest release among them, or that of before
abbrev sent : Mark → Op ℕ → Op ℕ
sent m o = cond (release_sent m) (put (field_of m)) o

abbrev same : Op ℕ → Op ℕ → Bool
same keep keep = true
same keep (put y) = false
same (put x) keep = false
same (put x) (put y) = eqb x y

-- what a signal holds, where the event's own message is this
abbrev holding : Arrived → Carries → Arrived
holding a Carries.Nothing = arrived []
holding a (Carries.Unit s) = arrived (unit_of s)
holding a Carries.Message = a

abbrev mark_of : Given → Arrived → Told → Mark
mark_of o a x = let l = load o.param o.num o.mps o.ups o.bsnt x in emitted (code x) l.param (holding a l.carries)

-- THE TEST. In 2/10/3 a link is not congested, and its connection came up while it was not; and every proving unit is sent on such a connection. Where the link that
-- an event finds has that, the marks of the event and of its signals lead to what the event leaves.
abbrev allowed : State → Bool → Bool → Bool
allowed s flag free = not (is-2/10/3 s) || (not flag && free)

module _ (o : Given) (e : List ℕ) (flag free : Bool) where
  abbrev viewed : ℕ → List Told → View
  viewed c says = along seen (map (mark_of o (own c e)) says) (seen (accepted c (param_at e) (number_at e) (arrived (message_of e))) record { flag = flag; free = free; proper = true })

  abbrev last_told : ℕ → List Told → Op ℕ
  last_told c says = along sent (map (mark_of o (own c e)) says) keep

  abbrev fine : ℕ → Summed → Bool
  fine c refused = true
  fine c (summed s says next) =
      let v = viewed c says in
      let now = over s.congested flag in
      beq v.flag now && (allowed next now v.free && (v.proper && same (last_told c says) s.last))

  abbrev leads : ℕ → List Act → Test
  leads c arrives s acts next = not (allowed s flag free) || fine c (goes_on flag s (summed (summary (arrives ++ acts) still) (signals acts) next))

table_leads : (o : Given) (e : List ℕ) (flag free : Bool) → in_rows (leads o e flag free) codes rows ≡ true
unfolding every_row arrived unit_of kind
table_leads o e true true = refl
table_leads o e true false = refl
table_leads o e false true = refl
table_leads o e false false = refl

-- WHAT MARKS TELL: what one keeps, the marks of an event's signals keep
module _ (k : ℕ) (m : List ℕ) (o : Given) where
  one_mark : (x : Told) → signal_mark (signal_octets k m (meant_by o x)) ≡ mark_of o (arrived m) x
  unfolding written
  one_mark x = let l = load o.param o.num o.mps o.ups o.bsnt x in ap (emitted (code x) l.param) (by l.carries) where
    by : (c : Carries) → arrived (body_of c m) ≡ holding (arrived m) c
    by Carries.Nothing = refl
    by (Carries.Unit s) = refl
    by Carries.Message = refl

  all_marks : {A : Type 0} (f : Mark → A → A) (P : A → List Mark → Type 0) → ((y : Mark) (a : A) (h : List Mark) → P a h → P (f y a) (y ∷ h)) →
      (says : List Told) (a : A) (h : List Mark) → P a h → P (along f (map (mark_of o (arrived m)) says) a) (with_signals (map (signal_octets k m) (map (meant_by o) says)) h)
  all_marks f P g [] a h i = i
  all_marks f P g (x ∷ says) a h i =
      let y = mark_of o (arrived m) x in
      all_marks f P g says (f y a) (signal_mark (signal_octets k m (meant_by o x)) ∷ h) (subst (λ (z : Mark). P (f y a) (z ∷ h)) (sym (one_mark x)) (g y a h i))

sent_so : (old : ℕ) (y : Mark) (o : Op ℕ) (h : List Mark) → last_sent h ≡ over o old → last_sent (y ∷ h) ≡ over (sent y o) old
sent_so old y o h i = by (release_sent y) where
  by : (b : Bool) → cond b (field_of y) (last_sent h) ≡ over (cond b (put (field_of y)) o) old
  by true = refl
  by false = i

same_so : (o r : Op ℕ) → same o r ≡ true → o ≡ r
same_so keep keep e = refl
same_so keep (put y) e = absurd (false≢true e)
same_so (put x) keep e = absurd (false≢true e)
same_so (put x) (put y) e = ap put (eqb-true x y e)

-- THE INVARIANT
record Inv (n1 : ℕ) (l : Link) (h : List Mark) : Type 0 where
  flag_is : (view h).flag ≡ l.congested
  last_is : last_sent h ≡ l.last
  proving : allowed l.state l.congested (view h).free ≡ true
  proper : (view h).proper ≡ true

-- ONE EVENT, with what its row is met with
module _ (n1 : ℕ) (l : Link) (h : List Mark) (v : Inv n1 l h) (e : List ℕ) (p : Passed e) (x : Meeting) where
  abbrev given : Given
  given = given_by x.param x.number l

  abbrev then : List Told → List Mark
  then says = with_signals (map (signal_octets (link_at e) (message_of e)) (map (meant_by given) says)) (event_mark e ∷ h)

  found : view h ≡ record { flag = l.congested; free = (view h).free; proper = true }
  found = λ i. record { flag = v.flag_is i; free = (view h).free; proper = v.proper i }

  view_so : (says : List Told) → view (then says) ≡ viewed given e l.congested (view h).free (code_at e) says
  view_so says =
      rw (no_unit e p) (all_marks (link_at e) (message_of e) given seen (λ y g. view g ≡ y) (λ m y g i. ap (seen m) i) says _ (event_mark e ∷ h) (ap (seen (event_mark e)) found))

  last_so : (says : List Told) → last_sent (then says) ≡ over (last_told given e l.congested (view h).free (code_at e) says) l.last
  last_so says =
      rw (no_unit e p) (all_marks (link_at e) (message_of e) given sent (λ o g. last_sent g ≡ over o l.last) (sent_so l.last) says keep (event_mark e ∷ h) v.last_is)

  fine_so : (y : Summed) → fine given e l.congested (view h).free (code_at e) y ≡ true → Keeps Inv n1 h e (outcome_of l x y)
  fine_so refused t = tt
  fine_so (summed s says next) t =
      let w : View = viewed given e l.congested (view h).free (code_at e) says in
      let o : Op ℕ = last_told given e l.congested (view h).free (code_at e) says in
      let now : Bool = over s.congested l.congested in
      let t₁ : allowed next now w.free && (w.proper && same o s.last) ≡ true = right (beq w.flag now) _ t in
      let t₂ : w.proper && same o s.last ≡ true = right (allowed next now w.free) _ t₁ in
      record {
        flag_is = ap (λ (y : View). y.flag) (view_so says) ∙ beq_eq w.flag now (left (beq w.flag now) _ t);
        last_is = last_so says ∙ ap (λ (r : Op ℕ). over r l.last) (same_so o s.last (right w.proper _ t₂));
        proving = ap (λ (y : View). allowed next now y.free) (view_so says) ∙ left (allowed next now w.free) _ t₁;
        proper = ap (λ (y : View). y.proper) (view_so says) ∙ left w.proper _ t₂;
      }

  -- a cell that passes, with congestion behind it
  cell_so : (c : ℕ) → c ≡ code_at e → (arrives : List Act) (y : Choice) → Holds (leads given e l.congested (view h).free c arrives l.state) [] y →
      Keeps Inv n1 h e (outcome_of l x (goes_on l.congested l.state (sum arrives y)))
  cell_so c q arrives illegal i = tt
  cell_so c q arrives (does acts next) i =
      fine_so (goes_on l.congested l.state (sum arrives (does acts next))) (rw q at (implied (allowed l.state l.congested (view h).free) _ i v.proving))

so_kept : Invariant Inv
so_kept =
    record {
      begins = λ n1. record { flag_is = refl; last_is = refl; proving = refl; proper = refl };
      goes_on = λ n1 l h v e p.
          let x = view_of (event_of e) l.c1 in
          let o = given_by x.1 x.2 l in
          let free = (view h).free in
          by_choice (Keeps Inv n1 h e) l (event_of e)
          (cell_so n1 l h v e p (meeting_of x) (code_of x.0) (row_code e p l.c1) (heading x.0).arrives (choice_of l x)
          (of_rows l.state (facts_of l x) (leads o e l.congested free) codes rows (table_leads o e l.congested free) x.0));
    }

-- THE RECORD
module _ (w : World) (k : ℕ) (v : Kept Inv w.n1 (record_at w.table k) (history w k)) where
  flag_octet_lem : flag_octet w k ≡ bit (view (history w k)).flag
  unfolding octets_of
  flag_octet_lem = ap (λ (r : List ℕ). at r 16) v.octets ∙ ap bit (sym v.inv.flag_is)

  last_octet_lem : last_octet w k ≡ last_sent (history w k)
  unfolding octets_of
  last_octet_lem = ap (λ (r : List ℕ). at r 17) v.octets ∙ sym v.inv.last_is

  state_octet : at (record_at w.table k) 2 ≡ state_code v.link.state
  unfolding octets_of
  state_octet = ap (λ (r : List ℕ). at r 2) v.octets

-- a bit that is 1 or 0, where what it tells holds or fails
module _ {A : Type 0} (b : Bool) (holds-so : b ≡ true → A) (so-holds : A → b ≡ true) where
  bit_set : (bit b ≡ 1) ↔ A
  bit_set = (λ e. holds-so (by b e), λ a. ap bit (so-holds a)) where
    by : (b : Bool) → bit b ≡ 1 → b ≡ true
    by true e = refl
    by false e = absurd (omega arith)

  bit_clear : (bit b ≡ 0) ↔ (A → ⊥)
  bit_clear = (λ e a. by b e (so-holds a), λ f. back b (λ t. f (holds-so t))) where
    by : (b : Bool) → bit b ≡ 0 → b ≡ true → ⊥
    by true e t = omega arith
    by false e t = false≢true t

    back : (b : Bool) → (b ≡ true → ⊥) → bit b ≡ 0
    back true f = absurd (f refl)
    back false f = refl

pub congested_flag : CongestedFlag
congested_flag =
    record {
      set = after_each_call Inv so_kept (λ w k. (flag_octet w k ≡ 1) ↔ Congested (history w k))
          (λ w k v. let h = history w k in rw (flag_octet_lem w k v) (bit_set (view h).flag (congested h) (flagged h)));
      clear = after_each_call Inv so_kept (λ w k. (flag_octet w k ≡ 0) ↔ (Congested (history w k) → ⊥))
          (λ w k v. let h = history w k in rw (flag_octet_lem w k v) (bit_clear (view h).flag (congested h) (flagged h)));
    }

pub last_field : LastField
last_field =
    record {
      sent = after_each_call Inv so_kept (λ w k. (r : LatestRelease (history w k)) → last_octet w k ≡ field_of r.request.mark) (λ w k v r. last_octet_lem w k v ∙ latest_field (history w k) r);
      unsent = after_each_call Inv so_kept (λ w k. none release_sent (history w k) ≡ true → last_octet w k ≡ 0) (λ w k v n. last_octet_lem w k v ∙ no_field (history w k) n);
    }

-- in 2/10/3 the flag is clear
clear_there : (s : State) (flag free : Bool) → allowed s flag free ≡ true → state_code s ≡ state_code 2/10/3 → flag ≡ false
clear_there State.S111 flag free t e = absurd (omega arith)
clear_there State.S141 flag free t e = absurd (omega arith)
clear_there State.S212 flag free t e = absurd (omega arith)
clear_there State.S222 flag free t e = absurd (omega arith)
clear_there State.S242 flag free t e = absurd (omega arith)
clear_there State.S2103 flag free t e = not-true flag (left (not flag) free t)
clear_there State.S2104 flag free t e = absurd (omega arith)
clear_there State.S3105 flag free t e = absurd (omega arith)

pub never_in_proving : NeverInProving
never_in_proving =
    after_each_call Inv so_kept (λ w k. at (record_at w.table k) 2 ≡ state_code 2/10/3 → flag_octet w k ≡ 0)
    (λ w k v e. flag_octet_lem w k v ∙ ap bit (v.inv.flag_is ∙ clear_there v.link.state v.link.congested (view (history w k)).free v.inv.proving (sym (state_octet w k v) ∙ e)))

pub note_7 : Note7
note_7 =
    after_each_call Inv so_kept (λ w k. (u : Somewhere proving_sent (history w k)) → (c : Connection u.earlier) × (Congested (begun c) → ⊥))
    (λ w k v. clear_units (history w k) v.inv.proper)
