-- An invariant over any sequence of calls, on octets: what a fresh link has and each event keeps holds of every link, after each call. Assumes nothing.
use mathlib.Core.Path.{◌≡◌, refl, sym, ap, subst, ◌∙◌}
use mathlib.Core.Bool.{Bool, true, false, cond}
use mathlib.Core.List.{List, [], ◌∷◌, map}
use Prim.Native.Nat.{ℕ, ◌*◌, ◌/◌, ◌≤◌, ◌<◌}
use native.Mathlib.Omega.{arith}
use lib.Dec.{eqb}
use lib.ListN.{length}
use borrow.Author.Tests.{eqb-true, eqb-false}
use Rattle.link.specs.declared.Link.{Link}
use Rattle.link.specs.declared.Signal.{Signal}
use Rattle.link.specs.Fresh.{fresh_link}
use Rattle.link.specs.Step as machine
use Rattle.record.specs.LinkRecord.{link_of, octets_of}
use Rattle.event.specs.Frame.{link_at, code_at, message_of}
use Rattle.event.specs.EventRecord.{framed, coded_in, unknown, event_of, fields_in}
use Rattle.event.specs.Fields.{field_checks}
use Rattle.signal.specs.SignalRecord.{signal_octets, joined}
use Rattle.record.proofs.LinkRecord.{unpacked, octets_length}
use Rattle.signal.proofs.SignalRecord.{signals_apart}
use Rattle.step.specs.declared.Refusal.{Refusal}
use Rattle.unit.specs.Checks.{Verdict, passed, refused, first}
use Rattle.step.specs.Step.{records, record_at, link_for, checks, Outcome, step_call}
use Rattle.sscf.specs.Fresh as maker
use Rattle.sscf.specs.Fresh.{fresh_checks, fresh_call}
use Rattle.step.specs.Untouched.{Written}
use Rattle.unit.proofs.Checks.{clear, none}
use Rattle.step.proofs.Taken.{taken}
use Rattle.step.proofs.Untouched.{either_way, number_above, refusals_untouched, same_lengths, others_untouched, accepted_written}
use Rattle.sscf.proofs.Copies.{length_copies}
use Rattle.sscf.proofs.AllFresh.{all_fresh}
use Rattle.event.specs.EndToEnd.{frames}
use Rattle.sscf.specs.Burst.{singly, burst_checks, calls_by, singles}
use Rattle.sscf.proofs.Singles.{each_call}
use Rattle.history.specs.Calls.{Call, fresh, step, burst, Seen, cut, signals_in, World, made, stepped, each, next, run, AfterEachCall}
use Rattle.history.specs.History.{Mark, with_signals, event_mark, marks, history}

-- WHAT EACH STEP KEEPS a burst keeps, which is read as its single calls
module _ (P : World → Type 0) (k : (w : World) (e o : List ℕ) → P w → P (stepped w e (step_call w.table e o))) where
  each_keeps : (fs : List (List ℕ)) (t o : List ℕ) (w : World) → w.table ≡ t → P w → P (each w (singly fs t o))
  each_keeps =
      each_call (λ fs t o s. (w : World) → w.table ≡ t → P w → P (each w s)) (λ t o w h p. p) (λ e fs t o r w h p. p)
      (λ e fs t o s r q w h p. q (stepped w e (step_call t e o)) refl (subst (λ (x : List ℕ). P (stepped w e (step_call x e o))) h (k w e o p)))

  by_verdict : (w : World) (es o : List ℕ) (d : Verdict Refusal) → P w → P (each w (calls_by d w.table es o))
  by_verdict w es o (refused x) p = p
  by_verdict w es o passed p = each_keeps (frames es) w.table o w refl p

  pub burst_keeps : (w : World) (es o l : List ℕ) → P w → P (next w (burst es o l))
  unfolding next singles
  burst_keeps w es o l = by_verdict w es o (first (burst_checks w.table es l))

-- WHAT THE OUTPUT HOLDS: the records of the signals, one by one
cut_joined : (k : ℕ) (m : List ℕ) (ss : List Signal) → cut (length ss) (joined k m ss) ≡ map (signal_octets k m) ss
cut_joined k m [] = refl
cut_joined k m (s ∷ ss) =
    let a = signals_apart k m s ss in
    rw (a.first, a.others) (ap (λ (x : List (List ℕ)). signal_octets k m s ∷ x) (cut_joined k m ss))

pub emitted_ones : (t e : List ℕ) (after : Outcome) (w : Written t e after) → signals_in after ≡ map (signal_octets (link_at e) (message_of e)) w.signals
emitted_ones t e after w = rw (w.counted, w.octets) (cut_joined (link_at e) (message_of e) w.signals)

-- AN EVENT THAT IS TAKEN: the checks of its frame, its code and its fields have passed it
pub record Passed (e : List ℕ) : Type 0 where
  pub sound : framed e ≡ true
  pub known : unknown (coded_in e) ≡ false
  pub fits : first (field_checks (code_at e) (fields_in e)) ≡ passed

passed_by : (t e : List ℕ) (room : ℕ) → first (checks t e room) ≡ passed → Passed e
passed_by t e room h =
    let c = clear (checks t e room) h in
    let f = c.1.1.1 in
    record { sound = (taken t e room h).sound; known = c.1.1.0; fits = none (field_checks (code_at e) (fields_in e)) (f.0, (f.1.0, (f.1.1.0, (f.1.1.1.0, (f.1.1.1.1.0, (f.1.1.1.1.1.0, tt)))))) }

-- AN INVARIANT of a link and its history, with the n1 that the table was made with
module _ (I : ℕ → Link → List Mark → Type 0) where
  -- it holds of what an event leaves
  abbrev pub Keeps : ℕ → List Mark → List ℕ → machine.Outcome → Type 0
  Keeps n1 h e machine.Illegal = Unit {0}
  Keeps n1 h e (machine.Legal next said) = I n1 next (with_signals (map (signal_octets (link_at e) (message_of e)) said) (event_mark e ∷ h))

  -- a fresh link has it, and every event that is taken keeps it
  pub record Invariant : Type 0 where
    pub begins : (n1 : ℕ) → I n1 (fresh_link n1) []
    pub goes_on : (n1 : ℕ) (l : Link) (h : List Mark) → I n1 l h → (e : List ℕ) → Passed e → Keeps n1 h e (machine.step_of l (event_of e))

  -- a record is that of a link of which it holds
  pub record Kept (n1 : ℕ) (r : List ℕ) (h : List Mark) : Type 0 where
    pub link : Link
    pub octets : r ≡ octets_of link
    pub inv : I n1 link h

  abbrev Good : World → Type 0
  Good w = (k : ℕ) → k < records w.table → Kept w.n1 (record_at w.table k) (history w k)

pub made_length : (buffer : List ℕ) (n1 : ℕ) → (fresh_call buffer n1).answer.refusal ≡ 0 → length (fresh_call buffer n1).table ≡ 20 * records buffer
unfolding fresh_call
made_length buffer n1 = by (first (fresh_checks buffer n1)) where
  by : (v : Verdict Refusal) → (maker.made v buffer n1).answer.refusal ≡ 0 → length (maker.made v buffer n1).table ≡ 20 * records buffer
  by (refused x) h = absurd (omega (arith, number_above x))
  by passed h = length_copies (records buffer) (octets_of (fresh_link n1)) (octets_length (fresh_link n1))

module _ (I : ℕ → Link → List Mark → Type 0) (v : Invariant I) (w : World) (g : Good I w) (e o : List ℕ) where
  same_records : records (step_call w.table e o).table ≡ records w.table
  same_records = ap (λ (n : ℕ). n / 20) (same_lengths w.table e o).0

  no_check : (step_call w.table e o).answer.refusal ≡ 0 → first (checks w.table e (length o)) ≡ passed
  no_check =
      either_way w.table e o (λ z. z.answer.refusal ≡ 0 → first (checks w.table e (length o)) ≡ passed) (λ x h. absurd (omega (arith, number_above x)))
      (λ next signals p m h. p)

  this_link : (step_call w.table e o).answer.refusal ≡ 0 →
      Kept I w.n1 (record_at (step_call w.table e o).table (link_at e)) (with_signals (signals_in (step_call w.table e o)) (event_mark e ∷ history w (link_at e)))
  this_link a =
      let x = accepted_written w.table e o a in
      let p = no_check a in
      let i = g (link_at e) (taken w.table e (length o) p).inside in
      let found : link_for w.table e ≡ i.link = ap link_of i.octets ∙ unpacked i.link in
      record {
        link = x.next;
        octets = x.packed;
        inv =
            rw (emitted_ones w.table e (step_call w.table e o) x)
            (subst (Keeps I w.n1 (history w (link_at e)) e) (ap (λ (l : Link). machine.step_of l (event_of e)) (sym found) ∙ x.gives)
            (v.goes_on w.n1 i.link (history w (link_at e)) i.inv e (passed_by w.table e (length o) p)));
      }

  abbrev log : Bool → List Seen
  log b = cond b (record { event = e; signals = signals_in (step_call w.table e o) } ∷ w.seen) w.seen

  accepted_ok : (step_call w.table e o).answer.refusal ≡ 0 → (k : ℕ) → k < records w.table → (b : Bool) → eqb (link_at e) k ≡ b →
      Kept I w.n1 (record_at (step_call w.table e o).table k) (cond b (with_signals (signals_in (step_call w.table e o)) (event_mark e ∷ marks w.seen k)) (marks w.seen k))
  accepted_ok a k i true q =
      subst (λ (j : ℕ). Kept I w.n1 (record_at (step_call w.table e o).table j) (with_signals (signals_in (step_call w.table e o)) (event_mark e ∷ marks w.seen j)))
      (eqb-true (link_at e) k q) (this_link a)
  accepted_ok a k i false q = rw (others_untouched w.table e o k (λ r. eqb-false (link_at e) k q (sym r))) (g k i)

  step_good : (b : Bool) → eqb (step_call w.table e o).answer.refusal 0 ≡ b → Good I (record { table = (step_call w.table e o).table; n1 = w.n1; seen = log b })
  unfolding marks
  step_good true a k i = accepted_ok (eqb-true (step_call w.table e o).answer.refusal 0 a) k (omega (arith, same_records)) (eqb (link_at e) k) refl
  step_good false a k i =
      let r : 1 ≤ (step_call w.table e o).answer.refusal = omega (arith, eqb-false (step_call w.table e o).answer.refusal 0 a) in
      rw (ap (λ (z : Outcome). z.table) (refusals_untouched w.table e o r)) (g k (omega (arith, same_records)))

module _ (I : ℕ → Link → List Mark → Type 0) (v : Invariant I) where
  made_ok : (buffer : List ℕ) (n1 : ℕ) → (fresh_call buffer n1).answer.refusal ≡ 0 → Good I (made buffer n1)
  unfolding marks
  made_ok buffer n1 h k i = record { link = fresh_link n1; octets = all_fresh buffer n1 k h (omega (arith, made_length buffer n1 h)); inv = v.begins n1 }

  fresh_good : (w : World) → Good I w → (buffer : List ℕ) (n1 : ℕ) (b : Bool) → eqb (fresh_call buffer n1).answer.refusal 0 ≡ b → Good I (cond b (made buffer n1) w)
  fresh_good w g buffer n1 true a = made_ok buffer n1 (eqb-true (fresh_call buffer n1).answer.refusal 0 a)
  fresh_good w g buffer n1 false a = g

  next_good : (w : World) → Good I w → (c : Call) → Good I (next w c)
  unfolding next
  next_good w g (fresh buffer n1) = fresh_good w g buffer n1 (eqb (fresh_call buffer n1).answer.refusal 0) refl
  next_good w g (step e o) = step_good I v w g e o (eqb (step_call w.table e o).answer.refusal 0) refl
  next_good w g (burst es o l) = burst_keeps (Good I) (λ w e o g. step_good I v w g e o (eqb (step_call w.table e o).answer.refusal 0) refl) w es o l g

  run_good : (calls : List Call) (w : World) → Good I w → Good I (run w calls)
  unfolding run
  run_good [] w g = g
  run_good (c ∷ calls) w g = run_good calls (next w c) (next_good w g c)

  -- what holds of a record and a history by the invariant holds after each call
  pub after_each_call : (P : World → ℕ → Type 0) → ((w : World) (k : ℕ) → Kept I w.n1 (record_at w.table k) (history w k) → P w k) → AfterEachCall P
  after_each_call P f buffer n1 h calls k i = f (run (made buffer n1) calls) k (run_good calls (made buffer n1) (made_ok buffer n1 h) k i)
