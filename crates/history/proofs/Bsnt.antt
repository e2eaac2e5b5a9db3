-- BSNT over every sequence of calls: ONE TEST OVER TABLE 6, computed, and what RETRIEVE_BSNT answers by it. Assumes nothing.
use mathlib.Core.Path.{◌≡◌, refl, sym, ap, ◌∙◌}
use mathlib.Core.Logic.{◌↔◌}
use mathlib.Core.Bool.{Bool, true, false, cond, not, ◌&&◌, ◌||◌, false≢true}
use mathlib.Core.List.{List, [], ◌∷◌, map}
use Prim.Native.Nat.{ℕ}
use native.Mathlib.Omega.{arith}
use lib.Dec.{eqb}
use lib.ListN.{take, drop}
use Rattle.unit.specs.declared.Arrived.{Arrived}
use Rattle.unit.specs.declared.Mps.{Mps}
use Rattle.unit.specs.declared.Ups.{Ups}
use Rattle.unit.specs.Unit.{arrived}
use Rattle.table6.specs.declared.State.{State}
use Rattle.table6.specs.EventCodes.{RETRIEVE-BSNT, DATA-indication}
use Rattle.table6.specs.SignalCodes.{code, ESTABLISH-response}
use Rattle.table6.specs.Cell as table6
use Rattle.table6.specs.Summary.{Op, keep, put, Summary, summed}
use Rattle.table6.specs.Table6.{AAL-RETRIEVE-BSNT-request}
use Rattle.table6.specs.Words.{1/1/1, 1/4/1}
use Rattle.table6.proofs.Every.{left, right}
use Rattle.table6.proofs.Unfolded.{every_row}
use Rattle.link.specs.declared.Num.{Num}
use Rattle.link.specs.declared.Bsnt.{Bsnt}
use Rattle.link.specs.declared.Link.{Link}
use Rattle.link.specs.declared.Event.TheVariants as event
use Rattle.link.specs.declared.Signal.{Signal}
use Rattle.link.specs.declared.View.{View}
use Rattle.link.specs.Effect.{with_state, with_bsnt, taken, not_retrievable}
use Rattle.link.specs.Signal as link
use Rattle.link.specs.Signal.{signal_of}
use Rattle.link.specs.Step.{Outcome, Illegal, Legal, step_of}
use Rattle.link.specs.Stored.{view_of, meeting_of, held}
use Rattle.link.proofs.Performed.{outcome_of}
use Rattle.octet.specs.Octets.{at}
use Rattle.record.specs.LinkRecord.{link_of, octets_of}
use Rattle.record.proofs.LinkRecord.{unpacked}
use Rattle.event.specs.Frame.{written, link_at, code_at, param_at, number_at, length_at, message_of}
use Rattle.event.specs.EventRecord.{coded_at, said, event_of}
use Rattle.event.specs.Fields.{not_carried, out_of_range}
use Rattle.signal.specs.SignalRecord.{signal_octets}
use Rattle.step.specs.Step.{record_at, step_call}
use Rattle.step.proofs.Untouched.{accepted_written}
use Rattle.history.specs.Calls.{World}
use Rattle.history.specs.History.{Mark, accepted, event_mark, signal_mark, with_signals, history, none}
use Rattle.history.specs.Pics.{◌⇒◌, link_in, plain}
use Rattle.history.specs.Bsnt.{new_connection, Latest, Asked, Answers, retrieved, not_retrieved, RetrieveBsnt, bsnt_octets, RecordBsnt, answer, Retrieves}
use Rattle.history.specs.Tests.{bsnt}
use Rattle.history.proofs.Tested.{connection, not_none}
use Rattle.history.proofs.Latest.{shows_number, shows_none}
use Rattle.history.proofs.Lawful.{implied}
use Rattle.history.proofs.Walk.{Kind, quiet, stops, confirms, releases, hears, receives, wishes, forces, Of, counting, each}
use Rattle.history.proofs.Table.{Now, down, on, now, sort_at, same_op, Asks, onward, Passes, by_test}
use Rattle.history.proofs.Calls.{emitted_ones, Keeps, Invariant, Kept, after_each_call}
use Rattle.history.proofs.Events.{Told, sorted}
use Rattle.history.proofs.Step.{NowIs, Inv, keeps_inv, same_op_lem, twice}
use Rattle.history.proofs.Pics.{Hands, hands, led, ended, brings}

-- THE TEST: what becomes of BSNT is what the marks tell. Data takes its number, and there is a connection; a confirm brings one up, and so does a response.
abbrev brought : Kind → Op Bool
brought quiet = keep
brought stops = keep
brought confirms = put false
brought releases = keep
brought hears = put true
brought receives = put true
brought (wishes x) = keep
brought (forces x) = keep

abbrev takes : Op Bool → Bool
takes keep = false
takes (put b) = b

abbrev connected : Now → Bool
connected down = false
connected (on a g z) = true

abbrev responds : List table6.Told → Bool
responds [] = false
responds (a ∷ others) = eqb (code a) ESTABLISH-response || responds others

abbrev bit : Bool → ℕ
bit b = cond b 1 0

abbrev tells : Kind → List table6.Told → Op Bool
tells k told = cond (responds told) (put false) (brought k)

abbrev remembers : Asks
remembers s st flag r says next = (not (takes (brought s.mark)) || connected (now st flag)) && same_op bit (tells s.mark says) r.bsnt

table_remembers : Passes (onward remembers)
unfolding every_row
table_remembers = refl

bit_back : (b : Bool) → eqb (bit b) 1 ≡ b
bit_back true = refl
bit_back false = refl

-- WHAT MARKS TELL: the event's, and then those of its signals
event_told : (k : Kind) (c p : ℕ) (n : Num) (a : Arrived) (h : List Mark) → Of k c a → (takes (brought k) ≡ true → not (none new_connection h) ≡ true) →
    bsnt (accepted c p n a ∷ h) ≡ held (brought k) n (bsnt h)
unfolding bsnt
event_told quiet c p n a h e u = let (_, (_, (_, (e₁₇, (e₁₈, (_, (_, (_, (e₂₀, _))))))))) = each (counting c) e in simp (e₁₇, e₁₈, e₂₀)
event_told stops c p n a h e u = rw e
event_told confirms c p n a h e u = rw e
event_told releases c p n a h e u = rw e
event_told hears c p n a h e u = simp (e.0, e.1, u refl)
event_told receives c p n a h e u = rw (e.0, u refl)
event_told (wishes Ups.Emergency) c p n a h e u = rw e
event_told (wishes Ups.Normal) c p n a h e u = rw e
event_told (forces Mps.Normal) c p n a h e u = rw e
event_told (forces Mps.Emergency) c p n a h e u = rw e
event_told (forces Mps.Neutral) c p n a h e u = rw e

one_of : (a b : Bool) (x : Bsnt) → cond b not_retrievable (cond a not_retrievable x) ≡ cond (a || b) not_retrievable x
one_of true true x = refl
one_of true false x = refl
one_of false b x = refl

module _ (k : ℕ) (m : List ℕ) (q : ℕ) (n : Num) (mps : Mps) (ups : Ups) (b : Num) where
  abbrev spoken : table6.Told → List ℕ
  spoken a = signal_octets k m (signal_of q n mps ups b a)

  signals_told : (told : List table6.Told) (h : List Mark) → bsnt (with_signals (map spoken told) h) ≡ cond (responds told) not_retrievable (bsnt h)
  unfolding bsnt written
  signals_told [] h = refl
  signals_told (a ∷ others) h = signals_told others (signal_mark (spoken a) ∷ h) ∙ one_of (eqb (code a) ESTABLISH-response) (responds others) (bsnt h)

-- THE INVARIANT
abbrev BsntIs : ℕ → Link → List Mark → Type 0
BsntIs n1 l h = bsnt h ≡ l.bsnt

-- where there is a connection, one came up
came_up : (n1 c1 : ℕ) (h : List Mark) (x : Now) → NowIs n1 x c1 h → connected x ≡ true → not (none new_connection h) ≡ true
came_up n1 c1 h down i e = absurd (false≢true e)
came_up n1 c1 h (on a g z) i e = let u = (connection h i.0).up in rw u.whole (not_none new_connection u.mark u.earlier u.passes u.later)

-- the number that a cell sees is the event's
data_kind : (k : Kind) (c : ℕ) (a : Arrived) → Of k c a → takes (brought k) ≡ true → c ≡ DATA-indication
data_kind quiet c a e t = absurd (false≢true t)
data_kind stops c a e t = absurd (false≢true t)
data_kind confirms c a e t = absurd (false≢true t)
data_kind releases c a e t = absurd (false≢true t)
data_kind hears c a e t = e.0
data_kind receives c a e t = e.0
data_kind (wishes x) c a e t = absurd (false≢true t)
data_kind (forces x) c a e t = absurd (false≢true t)

number_seen : (c p : ℕ) (n : Num) (len : ℕ) (a : Arrived) (c1 : ℕ) → c ≡ DATA-indication → (view_of (said (coded_at c p n len a)) c1).2 ≡ n
unfolding coded_at
number_seen c p n len a c1 e = rw e

-- a number that is not taken does not matter
seen_so : (o : Op Bool) (n n' : Num) (b : Bsnt) → (takes o ≡ true → n' ≡ n) → held o n b ≡ held o n' b
seen_so keep n n' b e = refl
seen_so (put true) n n' b e = ap taken (sym (e refl))
seen_so (put false) n n' b e = refl

told_so : (r : Bool) (o : Op Bool) (n : Num) (b : Bsnt) → cond r not_retrievable (held o n b) ≡ held (cond r (put false) o) n b
told_so true o n b = refl
told_so false o n b = refl

module _ (n1 : ℕ) (l : Link) (h : List Mark) (v : Inv n1 l h) (is : bsnt h ≡ l.bsnt) (e : List ℕ)
    (t : Told (sort_at (view_of (event_of e) l.c1).0) (code_at e) (param_at e) (arrived (message_of e)) l.c1 (view_of (event_of e) l.c1).1) where
  abbrev seen : View
  seen = view_of (event_of e) l.c1

  abbrev kind : Kind
  kind = (sort_at seen.0).mark

  remembered_so : (r : Summary) (told : List table6.Told) (next : State) → remembers (sort_at seen.0) l.state l.ins r told next ≡ true →
      Keeps BsntIs n1 h e (outcome_of l (meeting_of seen) (summed r told next))
  remembered_so r told next i =
      let o = brought kind in
      let there = now l.state l.ins in
      let on_one = not (takes o) || connected there in
      let so = same_op bit (tells kind told) r.bsnt in
      let a = arrived (message_of e) in
      let up : takes o ≡ true → not (none new_connection h) ≡ true = λ x. came_up n1 l.c1 h there v.now_is (implied (takes o) (connected there) (left on_one so i) x) in
      let number : takes o ≡ true → seen.2 ≡ number_at e = λ x. number_seen (code_at e) (param_at e) (number_at e) (length_at e) a l.c1 (data_kind kind (code_at e) a t.mark x) in
      rw (twice (link_at e) (message_of e) (signal_of seen.1 seen.2 l.mps l.ups l.bsnt.num) told)
      (signals_told (link_at e) (message_of e) seen.1 seen.2 l.mps l.ups l.bsnt.num told (event_mark e ∷ h)
      ∙ ap (cond (responds told) not_retrievable) (event_told kind (code_at e) (param_at e) (number_at e) a h t.mark up ∙ seen_so o (number_at e) seen.2 (bsnt h) number)
      ∙ told_so (responds told) o seen.2 (bsnt h)
      ∙ ap (λ (x : Op Bool). held x seen.2 (bsnt h)) (same_op_lem bit (λ n. eqb n 1) bit_back (tells kind told) r.bsnt (right on_one so i))
      ∙ ap (held r.bsnt seen.2) is)

-- beside what a link's record says of its history otherwise
record Remembered (n1 : ℕ) (l : Link) (h : List Mark) : Type 0 where
  inv : Inv n1 l h
  bsnt_is : bsnt h ≡ l.bsnt

together : (n1 : ℕ) (h : List Mark) (e : List ℕ) (o : Outcome) → Keeps Inv n1 h e o → Keeps BsntIs n1 h e o → Keeps Remembered n1 h e o
together n1 h e Illegal v b = tt
together n1 h e (Legal next said) v b = record { inv = v; bsnt_is = b }

at_first : bsnt [] ≡ not_retrievable
unfolding bsnt
at_first = refl

remembered : Invariant Remembered
remembered =
    record {
      begins = λ n1. record { inv = keeps_inv.begins n1; bsnt_is = at_first };
      goes_on = λ n1 l h v e p.
          together n1 h e (step_of l (event_of e)) (keeps_inv.goes_on n1 l h v.inv e p)
          (by_test remembers table_remembers (Keeps BsntIs n1 h e) l (event_of e) tt (remembered_so n1 l h v.inv v.bsnt_is e (sorted e p l.c1)));
    }

-- THE RECORD
abbrev KeptBsnt : World → ℕ → Type 0
KeptBsnt w k = Kept Remembered w.n1 (record_at w.table k) (history w k)

recorded : (w : World) (k : ℕ) → KeptBsnt w k → (link_in w k).bsnt ≡ bsnt (history w k)
recorded w k v = ap (λ (r : List ℕ). (link_of r).bsnt) v.octets ∙ ap (λ (l : Link). l.bsnt) (unpacked v.link) ∙ sym v.inv.bsnt_is

-- BSNT in octets
abbrev in_octets : Bsnt → List ℕ
in_octets b = bit b.known ∷ b.num.a ∷ b.num.b ∷ b.num.c ∷ []

octets_of_lem : (w : World) (k : ℕ) → KeptBsnt w k → bsnt_octets w k ≡ in_octets (bsnt (history w k))
unfolding octets_of
octets_of_lem w k v = ap (λ (r : List ℕ). take 4 (drop 7 r)) v.octets ∙ ap in_octets (sym v.inv.bsnt_is)

same_octets : (b : Bsnt) (n : Num) → in_octets b ≡ in_octets (taken n) → b ≡ taken n
same_octets b = by b.known b.num where
  by : (known : Bool) (m n : Num) → in_octets record { known = known; num = m } ≡ in_octets (taken n) → record { known = known; num = m } ≡ taken n
  by true m n e = ap (λ (r : List ℕ). taken record { a = at r 1; b = at r 2; c = at r 3 }) e
  by false m n e = absurd (omega (arith, ap (λ (r : List ℕ). at r 0) e))

pub record_bsnt : RecordBsnt
record_bsnt =
    record {
      number = after_each_call Remembered remembered (λ w k. (n : Num) → (bsnt_octets w k ≡ 1 ∷ n.a ∷ n.b ∷ n.c ∷ []) ↔ Latest (history w k) n)
          (λ w k v n. shows_number in_octets same_octets (history w k) (bsnt_octets w k) (octets_of_lem w k v) n);
      none = after_each_call Remembered remembered (λ w k. (bsnt_octets w k ≡ 0 ∷ 0 ∷ 0 ∷ 0 ∷ []) ↔ ((n : Num) → Latest (history w k) n → ⊥))
          (λ w k v. shows_none in_octets same_octets (history w k) (bsnt_octets w k) (octets_of_lem w k v));
    }

-- THE CALL. What RETRIEVE_BSNT is answered, where it is.
retrieving : (s : State) (known : Bool) (n : Num) (l : Link) {next : Link} {said : List Signal} →
    step_of (with_state s (with_bsnt record { known = known; num = n } l)) event.RetrieveBsnt ≡ Legal next said → said ≡ answer record { known = known; num = n } ∷ []
unfolding step_of AAL-RETRIEVE-BSNT-request
retrieving State.S111 true n l e = cc
retrieving State.S111 false n l e = cc
retrieving State.S141 true n l e = cc
retrieving State.S141 false n l e = cc
retrieving State.S212 known n l e = cc
retrieving State.S222 known n l e = cc
retrieving State.S242 known n l e = cc
retrieving State.S2103 known n l e = cc
retrieving State.S2104 known n l e = cc
retrieving State.S3105 known n l e = cc

asked_for : (c p : ℕ) (n : Num) (len : ℕ) (a : Arrived) → c ≡ RETRIEVE-BSNT → said (coded_at c p n len a) ≡ event.RetrieveBsnt
unfolding coded_at
asked_for c p n len a e = rw e

-- the answer as the one record of the output
abbrev in_output : ℕ → Bsnt → List (List ℕ)
in_output k b = signal_octets k [] (answer b) ∷ []

-- it carries no message
bare_so : (b : Bool) (n : Num) (k : ℕ) (m : List ℕ) → signal_octets k m (answer record { known = b; num = n }) ≡ signal_octets k [] (answer record { known = b; num = n })
bare_so true n k m = refl
bare_so false n k m = refl

answers : (w : World) (k : ℕ) (e o : List ℕ) → Asked w k e o → Answers w k e o (answer (link_in w k).bsnt)
answers w k e o a =
    let x = accepted_written w.table e o a.refusal in
    let l = link_in w k in
    let b = l.bsnt in
    let gives : step_of l event.RetrieveBsnt ≡ Legal x.next x.signals =
    sym (ap (step_of l) (asked_for (code_at e) (param_at e) (number_at e) (length_at e) (arrived (message_of e)) a.code)) ∙ sym (ap (λ (j : ℕ). step_of (link_in w j) (event_of e)) a.link) ∙ x.gives in
    emitted_ones w.table e (step_call w.table e o) x
    ∙ ap (map (signal_octets (link_at e) (message_of e))) (retrieving l.state b.known b.num l gives)
    ∙ ap (λ (r : List ℕ). r ∷ []) (ap (λ (j : ℕ). signal_octets j (message_of e) (answer b)) a.link ∙ bare_so b.known b.num k (message_of e))

-- the two answers are told apart by their codes, and two numbers by their octets
same_output : (k : ℕ) (b : Bsnt) (n : Num) → in_output k b ≡ in_output k (taken n) → b ≡ taken n
unfolding written
same_output k b n e = by b.known b.num n (cc e) where
  by : (known : Bool) (m n : Num) → signal_octets k [] (answer record { known = known; num = m }) ≡ signal_octets k [] (retrieved n) → record { known = known; num = m } ≡ taken n
  by true m n e = ap taken (ap number_at e)
  by false m n e = absurd (omega (arith, ap code_at e))

pub retrieve_bsnt : RetrieveBsnt
retrieve_bsnt =
    record {
      number = after_each_call Remembered remembered (λ w k. (e o : List ℕ) → Asked w k e o → (n : Num) → Answers w k e o (retrieved n) ↔ Latest (history w k) n)
          (λ w k v e o a n. shows_number (in_output k) (same_output k) (history w k) _ (answers w k e o a ∙ ap (in_output k) (recorded w k v)) n);
      none = after_each_call Remembered remembered (λ w k. (e o : List ℕ) → Asked w k e o → Answers w k e o not_retrieved ↔ ((n : Num) → Latest (history w k) n → ⊥))
          (λ w k v e o a. shows_none (in_output k) (same_output k) (history w k) _ (answers w k e o a ∙ ap (in_output k) (recorded w k v)));
    }

-- WHERE IT IS TAKEN
hands_retrieve : (k : ℕ) → Hands (plain RETRIEVE-BSNT k) k RETRIEVE-BSNT event.RetrieveBsnt
unfolding coded_at not_carried out_of_range
hands_retrieve k = hands k RETRIEVE-BSNT 0 link.none [] (omega arith) refl refl

out_of_service : (idle known : Bool) (n : Num) (l : Link) → let m = with_state (cond idle 1/1/1 1/4/1) (with_bsnt record { known = known; num = n } l) in
    step_of m event.RetrieveBsnt ≡ Legal m (answer m.bsnt ∷ [])
unfolding step_of AAL-RETRIEVE-BSNT-request
out_of_service true true n l = refl
out_of_service true false n l = refl
out_of_service false true n l = refl
out_of_service false false n l = refl

pub retrieves : Retrieves
retrieves =
    record {
      idle = brings 1/1/1 (λ w k. (plain RETRIEVE-BSNT k ⇒ answer (link_in w k).bsnt ∷ []) ∷ []) 1/1/1
          (λ w k a. let l = link_in w k in led a (hands_retrieve k) refl (out_of_service true l.bsnt.known l.bsnt.num l) [] 1/1/1 ended);
      disconnecting = brings 1/4/1 (λ w k. (plain RETRIEVE-BSNT k ⇒ answer (link_in w k).bsnt ∷ []) ∷ []) 1/4/1
          (λ w k a. let l = link_in w k in led a (hands_retrieve k) refl (out_of_service false l.bsnt.known l.bsnt.num l) [] 1/4/1 ended);
    }
