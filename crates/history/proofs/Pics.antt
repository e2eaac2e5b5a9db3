-- The items of A.6: a call is taken where no check refuses its event and Table 6 has a cell for it, and turns follow one another. Assumes nothing.
use Rattle.std.specs.Prelude.{Option, Some, None}
use mathlib.Core.Path.{◌≡◌, refl, sym, ap, subst, ◌∙◌}
use mathlib.Core.Bool.{Bool, true, false, cond, not, true≢false}
use mathlib.Core.List.{List, [], ◌∷◌, ◌++◌, map}
use Prim.Native.Nat.{ℕ, zero, suc, ◌+◌, ◌-◌, ◌≤◌, ◌<◌}
use native.Mathlib.Omega.{arith}
use lib.Dec.{eqb}
use lib.ListN.{length}
use borrow.Author.Tests.{eqb-true, eqb-false, ne_eqb, le-ltb, le-leb, lt-leb}
use Rattle.unit.specs.declared.Status.{Status}
use Rattle.unit.specs.declared.Arrived.{Arrived}
use Rattle.unit.specs.declared.Mps.{Mps}
use Rattle.unit.specs.declared.Ups.{Ups}
use Rattle.unit.specs.Unit.{unit_of, kind, arrived, decoded}
use Rattle.unit.specs.Proving.{asked, table7}
use Rattle.table6.specs.declared.State.{State}
use Rattle.table6.specs.Cell.{Timer, T1, T2, T3, Told}
use Rattle.table6.specs.Summary.{Summed, refused, summed}
use Rattle.table6.specs.Stored.{met, goes_on}
use Rattle.table6.specs.Words.{–, OOS, ANS, LR, SR, ALN, PDUT, field}
use Rattle.table6.specs.Words.{1/1/1, 1/4/1, 2/1/2, 2/2/2, 2/4/2, 2/10/3, 2/10/4, 3/10/5}
use Rattle.table6.specs.EventCodes.{MESSAGE-FOR-TRANSMISSION, STOP, START, ESTABLISH-indication, ESTABLISH-confirm, RELEASE-indication, RELEASE-confirm, DATA-indication}
use Rattle.table6.specs.EventCodes.{T1-expired, T2-expired, T3-expired}
use Rattle.table6.specs.SignalCodes.{code, RECEIVED-MESSAGE, OUT-OF-SERVICE, DATA-request, START-PROVING, STOP-PROVING, SET-T1, SET-T2, SET-T3, RESET-T1, RESET-T2, RESET-T3}
use Rattle.table6.specs.Table6.{AAL-START-request, AAL-STOP-request, AAL-MESSAGE-FOR-TRANSMISSION-request, AA-ESTABLISH-indication-with-EM-NM}
use Rattle.table6.specs.Table6.{AA-ESTABLISH-confirm-with-EM-NM, AA-RELEASE-indication-from-User, AA-RELEASE-indication-from-SSCOP, AA-RELEASE-confirm}
use Rattle.table6.specs.Table6.{AA-DATA-indication-with-INS, AA-DATA-indication-with-MU>4, T1-expires, T2-expires, T3-expires-and-C1>0, T3-expires-and-C1=0}
use Rattle.link.specs.declared.Num.{Num}
use Rattle.link.specs.declared.Carries.{Carries}
use Rattle.link.specs.declared.Link.{Link}
use Rattle.link.specs.declared.Event.{Event}
use Rattle.link.specs.declared.Event.TheVariants as event
use Rattle.link.specs.declared.Signal.{Signal}
use Rattle.link.specs.Effect.{with_state, with_ins, with_lpo, with_ups, with_c1, with_bsnt, with_timer, with_congested, with_last, taken, not_retrievable}
use Rattle.link.specs.Signal.{none, num, signal, bare, signal_of}
use Rattle.link.specs.Step.{Meeting, Outcome, Illegal, Legal, step_of}
use Rattle.link.specs.Stored.{view_of, meeting_of, facts_of}
use Rattle.link.specs.Twelve.{unit, report}
use Rattle.link.proofs.Performed.{outcome_of, as_met}
use Rattle.record.specs.LinkRecord.{well_formed, link_of}
use Rattle.record.proofs.LinkRecord.{unpacked}
use Rattle.event.specs.Frame.{EV, written, link_at, code_at, message_of}
use Rattle.event.specs.EventRecord.{Coded, coded_at, event_of, fields_in}
use Rattle.event.specs.Fields.{fields, not_carried, out_of_range, field_checks}
use Rattle.event.proofs.Frame.{two_back, frame_reread}
use Rattle.signal.specs.SignalRecord.{signal_octets}
use Rattle.step.specs.declared.Refusal.{Refusal}
use Rattle.unit.specs.Checks as checks
use Rattle.step.specs.Step as call
use Rattle.step.specs.Step.{bad_table, records, record_at, link_for, idle, is_illegal, step_call}
use Rattle.sscf.specs.Fresh as maker
use Rattle.sscf.specs.Fresh.{fresh_checks, fresh_call}
use Rattle.step.specs.Untouched.{Written}
use Rattle.unit.proofs.Checks as verdict
use Rattle.step.proofs.Places as places
use Rattle.step.proofs.Taken.{Makes, step_accepted}
use Rattle.step.proofs.Untouched.{number_above, refusals_untouched, same_lengths, stays_well_formed, accepted_written}
use Rattle.sscf.proofs.AllFresh.{fresh_well_formed}
use Rattle.history.specs.Calls.{Call, fresh, step, burst, signals_in, World, made, stepped, next, run, AfterEachCall}
use Rattle.history.specs.Pics.{Turn, ◌⇒◌, Happens, link_in, Leads, plain, asking, from_peer, coded, Source, sourced, released, message, arriving, report_uu, reported}
use Rattle.history.specs.Pics.{request, response, units, readies, completes, joins, notes, later, sooner, Brings, BringsFree, Serves, starts, answers, confirms, fails, SNPC1, SNPC2}
use Rattle.history.specs.Pics.{SNPC3, SNPC4, SNPC5, stops, SNPC6, to_user, to_sscop, to_management, to_timers, one_of, every, SNPC6-1, SNPC7, SNPC8}
use Rattle.history.specs.Pics.{T1-runs, T2-runs, retries, SNSP1, giving_up, expires, SNSP2}
use Rattle.history.specs.History.{Mark, history}
use Rattle.history.specs.Tests.{alive}
use Rattle.history.proofs.Tested.{alive_there}
use Rattle.history.proofs.Table.{now}
use Rattle.history.proofs.Step.{NowIs, Inv, keeps_inv}
use Rattle.history.proofs.Calls.{burst_keeps, emitted_ones, made_length, Passed, Kept, after_each_call}
use Rattle.history.proofs.Events.{long_message}
use Rattle.history.proofs.Timers.{timed_each}

-- ONE TURN

-- a link of a good table, with a record that is well-formed
pub record At (w : World) (k : ℕ) (l : Link) : Type 0 where
  good : bad_table w.table ≡ false
  inside : k < records w.table
  formed : well_formed (record_at w.table k) ≡ true
  holds : link_in w k ≡ l

-- octets that are an event for a link, with a code
pub record Hands (e : List ℕ) (k c : ℕ) (x : Event) : Type 0 where
  passed : Passed e
  link : link_at e ≡ k
  code : code_at e ≡ c
  event : event_of e ≡ x

module _ (w : World) (k c : ℕ) (l : Link) (e : List ℕ) (x : Event) (a : At w (link_at e) l) (f : Hands e k c x) (r : idle l c ≡ false) (after : Link)
    (said : List Signal) (s : step_of l x ≡ Legal after said) (o : List ℕ) (wide : 4240 ≤ length o) where
  makes : Makes w.table e after said
  makes = rw (a.holds, f.event) s

  passes : checks.first (call.checks w.table e (length o)) ≡ checks.passed
  passes =
      let g = verdict.clear (field_checks (code_at e) (fields_in e)) f.passed.fits in
      verdict.none (call.checks w.table e (length o))
      (a.good, (ap not f.passed.sound, (f.passed.known, (g.0, (g.1.0, (g.1.1.0, (g.1.1.1.0, (g.1.1.1.1.0, (g.1.1.1.1.1.0, (lt-leb (records w.table) (link_at e) a.inside, (ap not a.formed, (rw (a.holds, f.code) r, (ap is_illegal makes, (le-ltb (length o) 4240 wide, tt))))))))))))))

  taken_so : (step_call w.table e o).answer.refusal ≡ 0
  taken_so = ap (λ (z : call.Outcome). z.answer.refusal) (step_accepted w.table e o passes makes)

  writes : Written w.table e (step_call w.table e o)
  writes = accepted_written w.table e o taken_so

  same : Legal writes.next writes.signals ≡ Legal after said
  same = sym writes.gives ∙ makes

  happens : Happens w.table o (e ⇒ said)
  happens =
      let q : writes.signals ≡ said = cc same in
      record { accepted = taken_so; heard = emitted_ones w.table e (step_call w.table e o) writes ∙ ap (map (signal_octets (link_at e) (message_of e))) q }

  stays : At (next w (step e o)) (link_at e) after
  unfolding next
  stays =
      let n = (same_lengths w.table e o).0 in
      let q : writes.next ≡ after = cc same in
      record {
        good = rw n a.good;
        inside = omega (arith, a.inside);
        formed = stays_well_formed w.table e o (link_at e) a.formed;
        holds = ap link_of writes.packed ∙ unpacked writes.next ∙ q;
      }

-- a turn, and those that follow it
pub led : {w : World} {k c : ℕ} {l : Link} {e : List ℕ} {x : Event} {after : Link} {said : List Signal} → At w k l → Hands e k c x → idle l c ≡ false →
    step_of l x ≡ Legal after said → (turns : List Turn) (s : State) → ((w' : World) → At w' k after → Leads w' k turns s) → Leads w k ((e ⇒ said) ∷ turns) s
led {w} {k} {c} {l} {e} {x} {after} {said} a f r p turns s rest o h =
    let b = subst (λ (j : ℕ). At w j l) (sym f.link) a in
    let w' = next w (step e o) in
    (happens w k c l e x b f r after said p o h, rest w' (subst (λ (j : ℕ). At w' j after) f.link (stays w k c l e x b f r after said p o h)))

pub ended : {k : ℕ} {l : Link} (w : World) → At w k l → Leads w k [] l.state
ended w a = ap (λ (l : Link). l.state) a.holds

-- AFTER EVERY SEQUENCE OF CALLS every link is such
abbrev Sound : World → Type 0
Sound w = (bad_table w.table ≡ false) × ((k : ℕ) → k < records w.table → well_formed (record_at w.table k) ≡ true)

taken_buffer : (buffer : List ℕ) (n1 : ℕ) → (fresh_call buffer n1).answer.refusal ≡ 0 → bad_table buffer ≡ false
unfolding fresh_call
taken_buffer buffer n1 = by (checks.first (fresh_checks buffer n1)) refl where
  by : (v : checks.Verdict Refusal) → checks.first (fresh_checks buffer n1) ≡ v → (maker.made v buffer n1).answer.refusal ≡ 0 → bad_table buffer ≡ false
  by (checks.refused x) p h = absurd (omega (arith, number_above x))
  by checks.passed p h = (verdict.clear (fresh_checks buffer n1) p).0

made_sound : (buffer : List ℕ) (n1 : ℕ) → (fresh_call buffer n1).answer.refusal ≡ 0 → Sound (made buffer n1)
made_sound buffer n1 h =
    let g = taken_buffer buffer n1 h in
    let n : length (fresh_call buffer n1).table ≡ length buffer = omega (arith, made_length buffer n1 h, places.whole buffer g) in
    (rw n g, λ k i. fresh_well_formed buffer n1 k h (omega (arith, n)))

step_sound : (w : World) (e o : List ℕ) → Sound w → Sound (stepped w e (step_call w.table e o))
step_sound w e o s =
    let n = (same_lengths w.table e o).0 in
    (rw n s.0, λ k i. stays_well_formed w.table e o k (s.1 k (omega (arith, n))))

next_sound : (w : World) (c : Call) → Sound w → Sound (next w c)
unfolding next
next_sound w (fresh buffer n1) s = by (eqb (fresh_call buffer n1).answer.refusal 0) refl where
  by : (b : Bool) → eqb (fresh_call buffer n1).answer.refusal 0 ≡ b → Sound (cond b (made buffer n1) w)
  by true p = made_sound buffer n1 (eqb-true (fresh_call buffer n1).answer.refusal 0 p)
  by false p = s
next_sound w (step e o) s = step_sound w e o s
next_sound w (burst es o l) s = burst_keeps Sound step_sound w es o l s

run_sound : (calls : List Call) (w : World) → Sound w → Sound (run w calls)
unfolding run
run_sound [] w s = s
run_sound (c ∷ calls) w s = run_sound calls (next w c) (next_sound w c s)

at_each : AfterEachCall (λ w k. At w k (link_in w k))
at_each buffer n1 h calls k i =
    let s = run_sound calls (made buffer n1) (made_sound buffer n1 h) in
    record { good = s.0; inside = i; formed = s.1 k i; holds = refl }

kept_each : AfterEachCall (λ w k. Kept Inv w.n1 (record_at w.table k) (history w k))
kept_each = after_each_call Inv keeps_inv (λ w k. Kept Inv w.n1 (record_at w.table k) (history w k)) (λ w k v. v)

n1_each : AfterEachCall (λ w k. (link_in w k).n1 ≡ w.n1)
n1_each =
    after_each_call Inv keeps_inv (λ w k. (link_in w k).n1 ≡ w.n1) (λ w k v. ap (λ (r : List ℕ). (link_of r).n1) v.octets ∙ ap (λ (l : Link). l.n1) (unpacked v.link) ∙ v.inv.n1_is)

-- what holds of a link in a state
pub brings : (s : State) (turns : World → ℕ → List Turn) (s' : State) → ((w : World) (k : ℕ) → At w k (with_state s (link_in w k)) → Leads w k (turns w k) s') → Brings s turns s'
brings s turns s' f buffer n1 h calls k i p =
    let w = run (made buffer n1) calls in
    let a = at_each buffer n1 h calls k i in
    f w k record { good = a.good; inside = a.inside; formed = a.formed; holds = λ i. with_state (p i) (link_in w k) }

-- and where it is not congested
abbrev free : Link → Link
free l = with_congested false l

brings_free : (s : State) (turns : World → ℕ → List Turn) (s' : State) → ((w : World) (k : ℕ) → At w k (with_state s (free (link_in w k))) → Leads w k (turns w k) s') → BringsFree s turns s'
brings_free s turns s' f buffer n1 h calls k i p c =
    let w = run (made buffer n1) calls in
    let a = at_each buffer n1 h calls k i in
    f w k record { good = a.good; inside = a.inside; formed = a.formed; holds = λ i. with_state (p i) (with_congested (c i) (link_in w k)) }

-- and where T1 or T2 runs
running : (t : Timer) (s : State) (turns : World → ℕ → List Turn) (s' : State) → AfterEachCall (λ w k. (link_in w k).state ≡ s → link_in w k ≡ with_timer t true (link_in w k)) →
    ((w : World) (k : ℕ) → At w k (with_state s (with_timer t true (link_in w k))) → Leads w k (turns w k) s') → Brings s turns s'
running t s turns s' r f buffer n1 h calls k i p =
    let w = run (made buffer n1) calls in
    let a = at_each buffer n1 h calls k i in
    f w k record { good = a.good; inside = a.inside; formed = a.formed; holds = (λ i. with_state (p i) (link_in w k)) ∙ ap (with_state s) (r buffer n1 h calls k i p) }

running_t1 : (s : State) → T1-runs s ≡ true → AfterEachCall (λ w k. (link_in w k).state ≡ s → link_in w k ≡ with_timer T1 true (link_in w k))
running_t1 s r buffer n1 h calls k i p =
    let q : (link_in (run (made buffer n1) calls) k).t1 ≡ true = (timed_each buffer n1 h calls k i).t1 ∙ ap T1-runs p ∙ r in
    λ i. with_timer T1 (q i) (link_in (run (made buffer n1) calls) k)

running_t2 : (s : State) → T2-runs s ≡ true → AfterEachCall (λ w k. (link_in w k).state ≡ s → link_in w k ≡ with_timer T2 true (link_in w k))
running_t2 s r buffer n1 h calls k i p =
    let q : (link_in (run (made buffer n1) calls) k).t2 ≡ true = (timed_each buffer n1 h calls k i).t2 ∙ ap T2-runs p ∙ r in
    λ i. with_timer T2 (q i) (link_in (run (made buffer n1) calls) k)

-- EVENTS

pub hands : (k c p : ℕ) (n : Num) (m : List ℕ) {x : Event} → length m ≤ 4096 → coded_at c p n (length m) (arrived m) ≡ Coded.Of x → checks.first (field_checks c (fields p n (length m))) ≡ checks.passed →
    Hands (written EV k c p n m) k c x
unfolding written
hands k c p n m h u v =
    record {
      passed = record { sound = frame_reread EV k c p n m h; known = rw (two_back (length m), u); fits = rw (two_back (length m)) v };
      link = two_back k;
      code = refl;
      event = rw (two_back (length m), u);
    }

hands_start : (k : ℕ) → Hands (plain START k) k START event.Start
unfolding coded_at not_carried out_of_range
hands_start k = hands k START 0 none [] (omega arith) refl refl

hands_stop : (k : ℕ) → Hands (plain STOP k) k STOP event.Stop
unfolding coded_at not_carried out_of_range
hands_stop k = hands k STOP 0 none [] (omega arith) refl refl

hands_t1 : (k : ℕ) → Hands (plain T1-expired k) k T1-expired event.T1
unfolding coded_at not_carried out_of_range
hands_t1 k = hands k T1-expired 0 none [] (omega arith) refl refl

hands_t2 : (k : ℕ) → Hands (plain T2-expired k) k T2-expired event.T2
unfolding coded_at not_carried out_of_range
hands_t2 k = hands k T2-expired 0 none [] (omega arith) refl refl

hands_t3 : (k : ℕ) → Hands (plain T3-expired k) k T3-expired event.T3
unfolding coded_at not_carried out_of_range
hands_t3 k = hands k T3-expired 0 none [] (omega arith) refl refl

hands_indication : (peer : Ups) (k : ℕ) → Hands (from_peer ESTABLISH-indication peer k) k ESTABLISH-indication (event.EstablishIndication (asking peer))
unfolding coded_at not_carried out_of_range decoded
hands_indication Ups.Normal k = hands k ESTABLISH-indication (asking Ups.Normal) none [] (omega arith) refl refl
hands_indication Ups.Emergency k = hands k ESTABLISH-indication (asking Ups.Emergency) none [] (omega arith) refl refl

hands_confirm : (peer : Ups) (k : ℕ) → Hands (from_peer ESTABLISH-confirm peer k) k ESTABLISH-confirm (event.EstablishConfirm (asking peer))
unfolding coded_at not_carried out_of_range decoded
hands_confirm Ups.Normal k = hands k ESTABLISH-confirm (asking Ups.Normal) none [] (omega arith) refl refl
hands_confirm Ups.Emergency k = hands k ESTABLISH-confirm (asking Ups.Emergency) none [] (omega arith) refl refl

hands_release : (s : Source) (f : Option Status) (k : ℕ) → Hands (released s f k) k RELEASE-indication (event.ReleaseIndication (coded f) (sourced s))
unfolding coded_at not_carried out_of_range decoded
hands_release s f k = hands k RELEASE-indication (coded f) (num 0 0 (sourced s)) [] (omega arith) refl (fitting s f) where
  fitting : (s : Source) (f : Option Status) → checks.first (field_checks RELEASE-indication (fields (coded f) (num 0 0 (sourced s)) 0)) ≡ checks.passed
  fitting Source.User (Some Status.OOS) = refl
  fitting Source.User (Some Status.PO) = refl
  fitting Source.User (Some Status.INS) = refl
  fitting Source.User (Some Status.NM) = refl
  fitting Source.User (Some Status.EM) = refl
  fitting Source.User (Some Status.ANS) = refl
  fitting Source.User (Some Status.MI) = refl
  fitting Source.User (Some Status.PE) = refl
  fitting Source.User (Some Status.PNS) = refl
  fitting Source.SSCOP (Some Status.OOS) = refl
  fitting Source.SSCOP (Some Status.PO) = refl
  fitting Source.SSCOP (Some Status.INS) = refl
  fitting Source.SSCOP (Some Status.NM) = refl
  fitting Source.SSCOP (Some Status.EM) = refl
  fitting Source.SSCOP (Some Status.ANS) = refl
  fitting Source.SSCOP (Some Status.MI) = refl
  fitting Source.SSCOP (Some Status.PE) = refl
  fitting Source.SSCOP (Some Status.PNS) = refl
  fitting Source.User None = refl
  fitting Source.SSCOP None = refl

hands_release_confirm : (k : ℕ) → Hands (plain RELEASE-confirm k) k RELEASE-confirm event.ReleaseConfirm
unfolding coded_at not_carried out_of_range
hands_release_confirm k = hands k RELEASE-confirm 0 none [] (omega arith) refl refl

hands_ins : (n : Num) (k : ℕ) → Hands (arriving (unit_of Status.INS) n k) k DATA-indication (event.Data Arrived.INS n)
unfolding coded_at not_carried out_of_range unit_of kind arrived
hands_ins n k = hands k DATA-indication 0 n (unit_of Status.INS) (omega arith) refl refl

hands_data : (m : List ℕ) (n : Num) (k : ℕ) → 5 ≤ length m → length m ≤ 4096 → Hands (arriving m n k) k DATA-indication (event.Data Arrived.Long n)
unfolding coded_at not_carried out_of_range
hands_data m n k h i = hands k DATA-indication 0 n m i (rw (long_message m h)) refl

hands_message : (m : List ℕ) (k : ℕ) → 5 ≤ length m → length m ≤ 4096 → Hands (message m k) k MESSAGE-FOR-TRANSMISSION event.Message
unfolding coded_at not_carried out_of_range
hands_message m k h i = hands k MESSAGE-FOR-TRANSMISSION 0 none m i refl (rw (le-leb 5 (length m) h))

-- WHAT TABLE 6 GIVES, whatever else the record holds

module _ (l : Link) where
  start_idle : step_of (with_state 1/1/1 l) event.Start ≡ Legal (with_state 2/2/2 (with_timer T2 true l)) (request l ∷ report – ALN – ∷ bare SET-T2 ∷ [])
  unfolding step_of AAL-START-request
  start_idle = refl

  start_disconnecting : step_of (with_state 1/4/1 l) event.Start ≡ Legal (with_state 2/2/2 (with_timer T2 true l)) (request l ∷ report – ALN – ∷ bare SET-T2 ∷ [])
  unfolding step_of AAL-START-request
  start_disconnecting = refl

  rejected : (s : Source) (f : Option Status) →
      step_of (with_state 2/2/2 l) (event.ReleaseIndication (coded f) (sourced s)) ≡ Legal (with_state 2/1/2 (with_timer T1 true l)) (reported s f ∷ bare SET-T1 ∷ [])
  unfolding step_of AA-RELEASE-indication-from-User AA-RELEASE-indication-from-SSCOP
  rejected Source.User f = refl
  rejected Source.SSCOP f = refl

  unproved : (s : Source) (f : Option Status) →
      step_of (with_state 2/10/3 l) (event.ReleaseIndication (coded f) (sourced s))
      ≡ Legal (with_state 2/1/2 (with_timer T1 true (with_timer T3 false l))) (reported s f ∷ bare STOP-PROVING ∷ bare RESET-T3 ∷ bare SET-T1 ∷ [])
  unfolding step_of AA-RELEASE-indication-from-User AA-RELEASE-indication-from-SSCOP
  unproved Source.User f = refl
  unproved Source.SSCOP f = refl

  unready : (s : Source) (f : Option Status) →
      step_of (with_state 2/10/4 l) (event.ReleaseIndication (coded f) (sourced s)) ≡ Legal (with_state 2/1/2 (with_timer T1 true l)) (reported s f ∷ bare SET-T1 ∷ [])
  unfolding step_of AA-RELEASE-indication-from-User AA-RELEASE-indication-from-SSCOP
  unready Source.User f = refl
  unready Source.SSCOP f = refl

  disconnected : step_of (with_state 2/4/2 l) event.ReleaseConfirm ≡ Legal (with_state 2/1/2 (with_timer T1 true l)) (bare SET-T1 ∷ [])
  unfolding step_of AA-RELEASE-confirm
  disconnected = refl

  tries_again : (k : ℕ) → step_of (with_state 2/1/2 l) event.T1 ≡ Legal (with_state 2/2/2 (with_timer T1 false l)) (retries l k).signals
  unfolding step_of T1-expires
  tries_again k = refl

  late_waiting : step_of (with_state 2/1/2 l) event.T2 ≡ Legal (with_state 1/1/1 (with_ups Ups.Normal (with_timer T1 false (with_timer T2 false l)))) (giving_up 2/1/2)
  unfolding step_of T2-expires
  late_waiting = refl

  late_asked : step_of (with_state 2/2/2 l) event.T2 ≡ Legal (with_state 1/4/1 (with_last (field ANS) (with_ups Ups.Normal (with_timer T2 false l)))) (giving_up 2/2/2)
  unfolding step_of T2-expires
  late_asked = refl

  late_disconnecting : step_of (with_state 2/4/2 l) event.T2 ≡ Legal (with_state 1/4/1 (with_ups Ups.Normal (with_timer T2 false l))) (giving_up 2/4/2)
  unfolding step_of T2-expires
  late_disconnecting = refl

  late_proving : step_of (with_state 2/10/3 l) event.T2 ≡ Legal (with_state 1/4/1 (with_last (field ANS) (with_ups Ups.Normal (with_timer T3 false (with_timer T2 false l))))) (giving_up 2/10/3)
  unfolding step_of T2-expires
  late_proving = refl

  late_ready : step_of (with_state 2/10/4 l) event.T2 ≡ Legal (with_state 1/4/1 (with_last (field ANS) (with_ups Ups.Normal (with_timer T2 false l)))) (giving_up 2/10/4)
  unfolding step_of T2-expires
  late_ready = refl

  out_by_user : (f : Option Status) →
      step_of (with_state 3/10/5 l) (event.ReleaseIndication (coded f) 0) ≡ Legal (with_state 1/1/1 (with_ups Ups.Normal l)) (bare OUT-OF-SERVICE ∷ report_uu f ∷ [])
  unfolding step_of AA-RELEASE-indication-from-User
  out_by_user f = refl

  out_by_sscop : (f : ℕ) →
      step_of (with_state 3/10/5 l) (event.ReleaseIndication f 1) ≡ Legal (with_state 1/1/1 (with_ups Ups.Normal l)) (bare OUT-OF-SERVICE ∷ report SR OOS – ∷ [])
  unfolding step_of AA-RELEASE-indication-from-SSCOP
  out_by_sscop f = refl

  received : (n : Num) →
      step_of (with_state 3/10/5 l) (event.Data Arrived.Long n) ≡ Legal (with_state 3/10/5 (with_bsnt (taken n) l)) (signal RECEIVED-MESSAGE 0 none Carries.Message ∷ [])
  unfolding step_of AA-DATA-indication-with-MU>4
  received n = refl

  transmitted : step_of (with_state 3/10/5 l) event.Message ≡ Legal (with_state 3/10/5 l) (signal DATA-request 0 none Carries.Message ∷ report – – PDUT ∷ [])
  unfolding step_of AAL-MESSAGE-FOR-TRANSMISSION-request
  transmitted = refl

  stop_proving : (k : ℕ) → step_of (with_state 2/10/3 l) event.Stop ≡ Legal (with_state 1/4/1 (with_last (field OOS) (with_ups Ups.Normal (with_timer T3 false (with_timer T2 false l))))) (stops (report LR OOS – ∷ bare STOP-PROVING ∷ bare RESET-T2 ∷ bare RESET-T3 ∷ []) k).signals
  unfolding step_of AAL-STOP-request
  stop_proving k = refl

  stop_aligned : (k : ℕ) → step_of (with_state 2/10/4 l) event.Stop ≡ Legal (with_state 1/4/1 (with_last (field OOS) (with_ups Ups.Normal (with_timer T2 false l)))) (stops (report LR OOS – ∷ bare RESET-T2 ∷ []) k).signals
  unfolding step_of AAL-STOP-request
  stop_aligned k = refl

  stop_serving : (k : ℕ) → step_of (with_state 3/10/5 l) event.Stop ≡ Legal (with_state 1/4/1 (with_last (field OOS) (with_ups Ups.Normal l))) (stops (report LR OOS – ∷ []) k).signals
  unfolding step_of AAL-STOP-request
  stop_serving k = refl

  -- in 2/10/3 with T3 running, so many units to go, and the peer's INS unit received or not
  abbrev proving : Bool → ℕ → Link
  proving ins c = with_c1 c (with_ins ins (with_state 2/10/3 (with_timer T3 true l)))

  abbrev due : Ups → ℕ
  due peer = table7 l.mps l.ups peer l.n1

  one_unit : (ins : Bool) (c : ℕ) → step_of (proving ins (suc c)) event.T3 ≡ Legal (proving ins c) (unit Status.NM ∷ bare SET-T3 ∷ [])
  unfolding step_of T3-expires-and-C1>0
  one_unit ins c = rw (ne_eqb (suc c) 0 (λ e. omega arith), less_one c) where
    less_one : (c : ℕ) → suc c - 1 ≡ c
    less_one c = omega arith

  noted : (c : ℕ) (n : Num) (k : ℕ) → step_of (proving false c) (event.Data Arrived.INS n) ≡ Legal (with_bsnt (taken n) (proving true c)) (notes n k).signals
  unfolding step_of AA-DATA-indication-with-INS
  noted c n k = refl

  aligned : (k : ℕ) → step_of (with_lpo false (proving false 0)) event.T3 ≡ Legal (with_state 2/10/4 (with_timer T3 false (with_lpo false (proving false 0)))) (readies k).signals
  unfolding step_of T3-expires-and-C1=0
  aligned k = refl

  at_once : (k : ℕ) →
      step_of (with_lpo false (proving true 0)) event.T3
      ≡ Legal (with_state 3/10/5 (with_timer T2 false (with_timer T3 false (with_lpo false (proving true 0))))) (completes k).signals
  unfolding step_of T3-expires-and-C1=0
  at_once k = refl

  peer_ready : (n : Num) (k : ℕ) →
      step_of (with_state 2/10/4 l) (event.Data Arrived.INS n) ≡ Legal (with_state 3/10/5 (with_timer T2 false (with_bsnt (taken n) l))) (joins n k).signals
  unfolding step_of AA-DATA-indication-with-INS
  peer_ready n k = refl

-- a connection comes up, where the link is not congested: BSNT is forgotten
abbrev forgetting : Link → Link
forgetting l = with_bsnt not_retrievable l

confirmed : (l : Link) (peer : Ups) (k : ℕ) → step_of (with_state 2/2/2 (free l)) (event.EstablishConfirm (asking peer)) ≡ Legal (proving (forgetting (free l)) false (due l peer)) (confirms peer k).signals
unfolding step_of AA-ESTABLISH-confirm-with-EM-NM asked
confirmed l Ups.Normal k = refl
confirmed l Ups.Emergency k = refl

answered : (l : Link) (peer : Ups) →
    step_of (with_state 2/1/2 (free l)) (event.EstablishIndication (asking peer))
    ≡ Legal (proving (forgetting (with_timer T1 false (free l))) false (due l peer)) (response l ∷ bare START-PROVING ∷ bare RESET-T1 ∷ bare SET-T3 ∷ [])
unfolding step_of AA-ESTABLISH-indication-with-EM-NM asked
answered l Ups.Normal = refl
answered l Ups.Emergency = refl

-- INTO SERVICE

units_lead : (k : ℕ) (l : Link) (ins : Bool) (a c : ℕ) (turns : List Turn) (s : State) → ((w : World) → At w k (proving l ins c) → Leads w k turns s) → (w : World) →
    At w k (proving l ins (a + c)) → Leads w k (units a k ++ turns) s
units_lead k l ins zero c turns s rest w at = rest w (subst (λ (d : ℕ). At w k (proving l ins d)) (omega arith) at)
units_lead k l ins (suc a) c turns s rest w at =
    led (subst (λ (d : ℕ). At w k (proving l ins d)) (more a c) at) (hands_t3 k) refl (one_unit l ins (a + c)) (units a k ++ turns) s
    (units_lead k l ins a c turns s rest)
  where
    more : (a c : ℕ) → suc a + c ≡ suc (a + c)
    more a c = omega arith

later_leads : (k : ℕ) (l : Link) (d : ℕ) (n : Num) (w : World) → At w k (proving (with_lpo false l) false d) → Leads w k (later d n k) 3/10/5
later_leads k l d n w at =
    units_lead k (with_lpo false l) false d 0 (readies k ∷ joins n k ∷ []) 3/10/5
    (λ w b. led b (hands_t3 k) refl (aligned l k) (joins n k ∷ []) 3/10/5
    (λ w b. led b (hands_ins n k) refl (peer_ready (with_timer T3 false (with_lpo false (proving l false 0))) n k) [] 3/10/5 ended)) w
    (subst (λ (c : ℕ). At w k (proving (with_lpo false l) false c)) (omega arith) at)

sooner_leads : (k : ℕ) (l : Link) (a b : ℕ) (n : Num) (w : World) → At w k (proving (with_lpo false l) false (a + b)) → Leads w k (sooner a b n k) 3/10/5
sooner_leads k l a b n =
    let m = with_bsnt (taken n) l in
    units_lead k (with_lpo false l) false a b (notes n k ∷ units b k ++ completes k ∷ []) 3/10/5
    (λ w at. led at (hands_ins n k) refl (noted (with_lpo false l) b n k) (units b k ++ completes k ∷ []) 3/10/5
    (λ w' at. units_lead k (with_lpo false m) true b 0 (completes k ∷ []) 3/10/5 (λ w at. led at (hands_t3 k) refl (at_once m k) [] 3/10/5 ended) w'
    (subst (λ (c : ℕ). At w' k (proving (with_lpo false m) true c)) (omega arith) at)))

-- into service after turns that bring the connection up, with C1 decided
module _ (s : State) (peer : Ups) (turns : World → ℕ → List Turn) (then : Link → Link)
    (up : (w : World) (k : ℕ) → At w k (with_state s (with_lpo false (free (link_in w k)))) →
    (more : List Turn) → ((w' : World) → At w' k (proving (with_lpo false (forgetting (then (free (link_in w k))))) false (due (link_in w k) peer)) → Leads w' k more 3/10/5) →
    Leads w k (turns w k ++ more) 3/10/5) where
  into_service : Serves s peer turns
  into_service buffer n1 h calls k i p c q n a b e =
      let w = run (made buffer n1) calls in
      let l = link_in w k in
      let x = at_each buffer n1 h calls k i in
      let here : At w k (with_state s (with_lpo false (free l))) = record { good = x.good; inside = x.inside; formed = x.formed; holds = λ i. with_state (p i) (with_lpo (q i) (with_congested (c i) l)) } in
      let d : due l peer ≡ a + b = ap (table7 l.mps l.ups peer) (n1_each buffer n1 h calls k i) ∙ sym e in
      let m = forgetting (then (free l)) in
      let so : (w' : World) → At w' k (proving (with_lpo false m) false (due l peer)) → At w' k (proving (with_lpo false m) false (a + b)) =
      λ w'. subst (λ (c : ℕ). At w' k (proving (with_lpo false m) false c)) d in (
        up w k here (later (a + b) n k) (λ w' x. later_leads k m (a + b) n w' (so w' x)),
        up w k here (sooner a b n k) (λ w' x. sooner_leads k m a b n w' (so w' x)),
      )

-- THE ITEMS

pub snpc1 : SNPC1
snpc1 =
    record {
      waiting = λ peer. into_service 2/1/2 peer (λ w k. answers peer w k ∷ []) (with_timer T1 false)
          (λ w k a more rest. led a (hands_indication peer k) refl (answered (with_lpo false (link_in w k)) peer) more 3/10/5 rest);
      after_start = λ peer s f. into_service 1/1/1 peer (λ w k. starts w k ∷ fails s f k ∷ answers peer w k ∷ []) (λ l. with_timer T1 false (with_timer T1 true (with_timer T2 true l)))
          (λ w k a more rest. let l = with_timer T2 true (with_lpo false (free (link_in w k))) in
          led a (hands_start k) refl (start_idle (with_lpo false (free (link_in w k)))) (fails s f k ∷ answers peer w k ∷ more) 3/10/5
          (λ w₁ a. led a (hands_release s f k) refl (rejected l s f) (answers peer w k ∷ more) 3/10/5
          (λ w₂ a. led a (hands_indication peer k) refl (answered (with_timer T1 true l) peer) more 3/10/5 rest)));
    }

pub snpc2 : SNPC2
snpc2 peer = brings_free 2/1/2 (λ w k. answers peer w k ∷ []) 2/10/3 (λ w k a. led a (hands_indication peer k) refl (answered (link_in w k) peer) [] 2/10/3 ended)

pub snpc3 : SNPC3
snpc3 =
    record {
      by_far_user = λ f. brings 3/10/5 (λ w k. (released Source.User f k ⇒ bare OUT-OF-SERVICE ∷ report_uu f ∷ []) ∷ []) 1/1/1
          (λ w k a. led a (hands_release Source.User f k) refl (out_by_user (link_in w k) f) [] 1/1/1 ended);
      by_sscop = λ f. brings 3/10/5 (λ w k. (released Source.SSCOP f k ⇒ bare OUT-OF-SERVICE ∷ report SR OOS – ∷ []) ∷ []) 1/1/1
          (λ w k a. led a (hands_release Source.SSCOP f k) refl (out_by_sscop (link_in w k) (coded f)) [] 1/1/1 ended);
    }

pub snpc4 : SNPC4
snpc4 =
    record {
      idle = brings 1/1/1 (λ w k. starts w k ∷ []) 2/2/2 (λ w k a. led a (hands_start k) refl (start_idle (link_in w k)) [] 2/2/2 ended);
      disconnecting = brings 1/4/1 (λ w k. starts w k ∷ []) 2/2/2 (λ w k a. led a (hands_start k) refl (start_disconnecting (link_in w k)) [] 2/2/2 ended);
    }

pub snpc5 : SNPC5
snpc5 =
    record {
      asked = λ peer. into_service 2/2/2 peer (λ w k. confirms peer k ∷ []) (λ l. l)
          (λ w k a more rest. led a (hands_confirm peer k) refl (confirmed (with_lpo false (link_in w k)) peer k) more 3/10/5 rest);
      after_start = λ peer. into_service 1/1/1 peer (λ w k. starts w k ∷ confirms peer k ∷ []) (with_timer T2 true)
          (λ w k a more rest. led a (hands_start k) refl (start_idle (with_lpo false (free (link_in w k)))) (confirms peer k ∷ more) 3/10/5
          (λ w₁ a. led a (hands_confirm peer k) refl (confirmed (with_timer T2 true (with_lpo false (link_in w k))) peer k) more 3/10/5 rest));
    }

-- a connection is present in three states, by the invariant
module _ (w : World) (k n1 : ℕ) (h : List Mark) (l : Link) (a : At w k l) (up : alive h ≡ true) where
  abbrev Releases : Type 0
  Releases = (rest : List Signal) × Leads w k (stops rest k ∷ []) 1/4/1

  none_there : alive h ≡ false → Releases
  none_there v = absurd (true≢false (sym up ∙ v))

  there : {s : State} → l.state ≡ s → At w k (with_state s l)
  there p = record { good = a.good; inside = a.inside; formed = a.formed; holds = a.holds ∙ (λ i. with_state (p i) l) }

  releases : (s : State) → l.state ≡ s → NowIs n1 (now s l.ins) l.c1 h → Releases
  releases State.S111 p v = none_there v
  releases State.S141 p v = none_there v
  releases State.S212 p v = none_there v
  releases State.S222 p v = none_there v
  releases State.S242 p v = none_there v
  releases State.S2103 p v = (_, led (there p) (hands_stop k) refl (stop_proving l k) [] 1/4/1 ended)
  releases State.S2104 p v = (_, led (there p) (hands_stop k) refl (stop_aligned l k) [] 1/4/1 ended)
  releases State.S3105 p v = (_, led (there p) (hands_stop k) refl (stop_serving l k) [] 1/4/1 ended)

pub snpc6 : SNPC6
snpc6 buffer n1 h calls k i c =
    let w = run (made buffer n1) calls in
    let x = at_each buffer n1 h calls k i in
    let v = kept_each buffer n1 h calls k i in
    let a : At w k v.link = record { good = x.good; inside = x.inside; formed = x.formed; holds = ap link_of v.octets ∙ unpacked v.link } in
    releases w k w.n1 (history w k) v.link a (alive_there c) v.link.state refl v.inv.now_is

-- SNPC6.1: whatever is told has one of the codes
abbrev all : List ℕ
all = to_user ++ to_sscop ++ to_management ++ to_timers

abbrev coding : Signal → ℕ
coding s = s.code

listed : (a : Told) → one_of all (code a) ≡ true
listed Told.AAL-RECEIVED-MESSAGE-indication = refl
listed Told.AAL-LINK-CONGESTED-indication = refl
listed Told.AAL-LINK-CONGESTION-CEASED-indication = refl
listed Told.AAL-IN-SERVICE-indication = refl
listed Told.AAL-OUT-OF-SERVICE-indication = refl
listed Told.AAL-RETRIEVED-MESSAGES-indication = refl
listed Told.AAL-RETRIEVAL-COMPLETE-indication = refl
listed Told.AAL-BSNT-confirm = refl
listed Told.AAL-BSNT-NOT-RETRIEVABLE-confirm = refl
listed Told.AA-ESTABLISH-request = refl
listed Told.AA-ESTABLISH-response = refl
listed (Told.AA-RELEASE-request uu) = refl
listed (Told.AA-DATA-request x) = refl
listed Told.AA-RECOVER-response = refl
listed Told.AA-RETRIEVE-request = refl
listed Told.MAAL-PROVING-indication = refl
listed Told.MAAL-STOP-PROVING-indication = refl
listed (Told.MAAL-REPORT-indication x y z) = refl
listed (Told.Set T1) = refl
listed (Told.Set T2) = refl
listed (Told.Set T3) = refl
listed (Told.Reset T1) = refl
listed (Told.Reset T2) = refl
listed (Told.Reset T3) = refl

all_listed : (p : ℕ) (n : Num) (mps : Mps) (ups : Ups) (b : Num) (told : List Told) → every (one_of all) (map coding (map (signal_of p n mps ups b) told)) ≡ true
all_listed p n mps ups b [] = refl
all_listed p n mps ups b (a ∷ others) = rw (listed a) (all_listed p n mps ups b others)

abbrev Coded? : Outcome → Type 0
Coded? Illegal = Unit {0}
Coded? (Legal l ss) = every (one_of all) (map coding ss) ≡ true

of_summed : (l : Link) (m : Meeting) (z : Summed) → Coded? (outcome_of l m z)
of_summed l m refused = tt
of_summed l m (summed s says next) = all_listed m.param m.number l.mps l.ups l.bsnt.num says

of_step : (l : Link) (x : Event) → Coded? (step_of l x)
of_step l x = let v = view_of x l.c1 in subst Coded? (as_met l x) (of_summed l (meeting_of v) (goes_on l.congested l.state (met v.0 l.state (facts_of l v))))

read_codes : (k : ℕ) (m : List ℕ) (ss : List Signal) → map code_at (map (signal_octets k m) ss) ≡ map coding ss
unfolding written
read_codes k m [] = refl
read_codes k m (s ∷ ss) = ap (λ (cs : List ℕ). s.code ∷ cs) (read_codes k m ss)

pub snpc6_1 : SNPC6-1
snpc6_1 t e o = by (eqb (step_call t e o).answer.refusal 0) refl where
  by : (b : Bool) → eqb (step_call t e o).answer.refusal 0 ≡ b → every (one_of all) (map code_at (signals_in (step_call t e o))) ≡ true
  by true q =
      let x = accepted_written t e o (eqb-true (step_call t e o).answer.refusal 0 q) in
      rw (emitted_ones t e (step_call t e o) x, read_codes (link_at e) (message_of e) x.signals) (subst Coded? x.gives (of_step (link_for t e) (event_of e)))
  by false q =
      let r : 1 ≤ (step_call t e o).answer.refusal = omega (arith, eqb-false (step_call t e o).answer.refusal 0 q) in
      ap (λ (z : call.Outcome). every (one_of all) (map code_at (signals_in z))) (refusals_untouched t e o r)

pub snpc7 : SNPC7
snpc7 m n h i =
    brings 3/10/5 (λ w k. (arriving m n k ⇒ signal RECEIVED-MESSAGE 0 none Carries.Message ∷ []) ∷ []) 3/10/5
    (λ w k a. led a (hands_data m n k h i) refl (received (link_in w k) n) [] 3/10/5 ended)

pub snpc8 : SNPC8
snpc8 m h i =
    brings 3/10/5 (λ w k. (message m k ⇒ signal DATA-request 0 none Carries.Message ∷ report – – PDUT ∷ []) ∷ []) 3/10/5
    (λ w k a. led a (hands_message m k h i) refl (transmitted (link_in w k)) [] 3/10/5 ended)

-- THE TIMERS

-- where T1 runs, its expiry asks again
again : (k : ℕ) (l : Link) (w : World) → At w k (with_state 2/1/2 (with_timer T1 true l)) → Leads w k (retries l k ∷ []) 2/2/2
again k l w a = led a (hands_t1 k) refl (tries_again (with_timer T1 true l) k) [] 2/2/2 ended

pub snsp1 : SNSP1
snsp1 =
    record {
      runs = λ buffer n1 h calls k i. (timed_each buffer n1 h calls k i).t1;
      asked = λ s f. brings 2/2/2 (λ w k. fails s f k ∷ retries (link_in w k) k ∷ []) 2/2/2
          (λ w k a. led a (hands_release s f k) refl (rejected (link_in w k) s f) (retries (link_in w k) k ∷ []) 2/2/2 (again k (link_in w k)));
      proving = λ s f. brings 2/10/3 (λ w k. (released s f k ⇒ reported s f ∷ bare STOP-PROVING ∷ bare RESET-T3 ∷ bare SET-T1 ∷ []) ∷ retries (link_in w k) k ∷ []) 2/2/2
          (λ w k a. led a (hands_release s f k) refl (unproved (link_in w k) s f) (retries (link_in w k) k ∷ []) 2/2/2 (again k (with_timer T3 false (link_in w k))));
      ready = λ s f. brings 2/10/4 (λ w k. fails s f k ∷ retries (link_in w k) k ∷ []) 2/2/2
          (λ w k a. led a (hands_release s f k) refl (unready (link_in w k) s f) (retries (link_in w k) k ∷ []) 2/2/2 (again k (link_in w k)));
      own = brings 2/4/2 (λ w k. (plain RELEASE-confirm k ⇒ bare SET-T1 ∷ []) ∷ retries (link_in w k) k ∷ []) 2/2/2
          (λ w k a. led a (hands_release_confirm k) refl (disconnected (link_in w k)) (retries (link_in w k) k ∷ []) 2/2/2 (again k (link_in w k)));
      waiting = running T1 2/1/2 (λ w k. retries (link_in w k) k ∷ []) 2/2/2 (running_t1 2/1/2 refl) (λ w k a. again k (link_in w k) w a);
    }

-- in a state of alignment, where T2 runs
late : (s s' : State) → T2-runs s ≡ true → (after : Link → Link) → ((l : Link) → step_of (with_state s l) event.T2 ≡ Legal (with_state s' (after l)) (giving_up s)) →
    Brings s (λ w k. expires s k ∷ []) s'
late s s' r after p = running T2 s (λ w k. expires s k ∷ []) s' (running_t2 s r) (λ w k a. led a (hands_t2 k) refl (p (with_timer T2 true (link_in w k))) [] s' ended)

pub snsp2 : SNSP2
snsp2 =
    record {
      runs = λ buffer n1 h calls k i. (timed_each buffer n1 h calls k i).t2;
      after_start = brings 1/1/1 (λ w k. starts w k ∷ expires 2/2/2 k ∷ []) 1/4/1
          (λ w k a. led a (hands_start k) refl (start_idle (link_in w k)) (expires 2/2/2 k ∷ []) 1/4/1
          (λ w₁ a. led a (hands_t2 k) refl (late_asked (with_timer T2 true (link_in w k))) [] 1/4/1 ended));
      waiting = late 2/1/2 1/1/1 refl (λ l. with_ups Ups.Normal (with_timer T1 false (with_timer T2 false l))) late_waiting;
      asked = late 2/2/2 1/4/1 refl (λ l. with_last (field ANS) (with_ups Ups.Normal (with_timer T2 false l))) late_asked;
      disconnecting = late 2/4/2 1/4/1 refl (λ l. with_ups Ups.Normal (with_timer T2 false l)) late_disconnecting;
      proving = late 2/10/3 1/4/1 refl (λ l. with_last (field ANS) (with_ups Ups.Normal (with_timer T3 false (with_timer T2 false l)))) late_proving;
      ready = late 2/10/4 1/4/1 refl (λ l. with_last (field ANS) (with_ups Ups.Normal (with_timer T2 false l))) late_ready;
    }
