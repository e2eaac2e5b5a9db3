-- What holds of a burst on all octets. Assumes nothing.
use mathlib.Core.Path.{◌≡◌, refl, sym, ap, subst, ◌∙◌}
use mathlib.Core.Bool.{Bool, true, false, cond, not, ◌||◌, true≢false}
use mathlib.Core.Logic.{◌⊎◌, inl, inr, ⊎_elim}
use mathlib.Core.List.{List, [], ◌∷◌, ◌++◌, append_assoc, append-nil, append_cancel_left}
use Prim.Native.Nat.{ℕ, zero, suc, ◌+◌, ◌-◌, ◌*◌, ◌≤◌, ◌<◌}
use native.Mathlib.Omega.{arith}
use lib.Dec.{eqb, leb, ltb}
use lib.ListN.{length, take, drop, get_or, length-append, length-drop, take-append-drop, get_or-append}
use lib.Seq.{take-length, drop-length, take-append-le, drop-append-le, drop-append-add, drop-drop}
use borrow.Author.Tests.{le-ltb, eqb-true, eqb-false}
use Rattle.unit.specs.Checks.{Verdict, passed, refused, first}
use Rattle.unit.proofs.Checks.{onward}
use Rattle.octet.specs.Octets.{at, two, over}
use Rattle.octet.proofs.Over.{length_over, over_front, over_rest}
use Rattle.link.specs.Step as machine
use Rattle.record.specs.LinkRecord.{well_formed}
use Rattle.event.specs.Frame.{EV, link_at, code_at, length_at, message_of}
use Rattle.event.specs.EventRecord.{framed, coded_in, unknown, event_of, fields_in}
use Rattle.event.specs.declared.Fault.{Fault}
use Rattle.event.specs.Fields.{field_checks}
use Rattle.event.specs.EndToEnd as events
use Rattle.event.specs.EndToEnd.{front, sound, frames}
use Rattle.event.proofs.Frame as frame
use Rattle.event.proofs.EndToEnd.{well_formed_lem, sound_is_well_formed, broken}
use Rattle.step.specs.declared.Refusal.{Refusal}
use Rattle.step.specs.Checks.{number}
use Rattle.step.specs.Step.{bad_table, records, record_at, idle, is_illegal, link_for, checks, Outcome, performed, outcome, step_call}
use Rattle.sscf.specs.Burst.{written, left, Single, singly, events_of, numbers_of, written_by, signals_by, table_after, BurstOutcome, bursting, burst_answered, burst_checks, broken_at, came, burst_call}
use Rattle.sscf.specs.BurstLaws.{BurstRefusalsUntouched, BurstUntouched, BurstRestUntouched, NamedByNone, BurstOthersUntouched, OneEvent, Stops, StopsOnly, NoEvents, AlwaysRoom, AlwaysPlace, end_to_end, Events, then, together, SplitInTwo, BrokenStands, BrokenRefused, AskedBefore}
use Rattle.step.proofs.Untouched.{number_above, same_lengths, rest_untouched, others_untouched, at_most_4240, at_most_twelvefold}
use Rattle.step.proofs.Taken.{field_checks_lem, step_refused}
use Rattle.sscf.proofs.Singles.{no_frame, a_frame, front_long, found, found_one, few_frames, written_length, output_is, no_room, single, one_more, each_call, events_and, written_and, numbers_and, signals_and, table_and, numbers_length, sound_there, as_good}
use Rattle.sscf.proofs.BurstCall.{burst_refused, burst_passed, Open, both, either_burst}

-- REFUSALS
is_table_or_list : (t es l : List ℕ) (x : Refusal) → first (burst_checks t es l) ≡ refused x → (number x ≡ 1) ⊎ (number x ≡ 13)
is_table_or_list t es l x h = by (bad_table t) (ltb (length l) (length (frames es))) h where
  numbered : Verdict Refusal → ℕ
  numbered passed = 0
  numbered (refused r) = number r

  by : (a b : Bool) → cond a (refused Refusal.Table) (cond b (refused Refusal.List) passed) ≡ refused x → (number x ≡ 1) ⊎ (number x ≡ 13)
  by true b e = inl (sym (ap numbered e))
  by false true e = inr (sym (ap numbered e))
  by false false e = absurd (omega (arith, number_above x, ap numbered e))

pub burst_refusals_untouched : BurstRefusalsUntouched
burst_refusals_untouched t es o l =
    either_burst t es o l
    (λ c. 1 ≤ c.answer.refusal → ((c.answer.refusal ≡ 1) ⊎ (c.answer.refusal ≡ 13)) × (c ≡ bursting (burst_answered c.answer.refusal 0 0 0 0 0) t o l))
    (λ x e h. (is_table_or_list t es l x e, refl)) (λ p h. absurd (omega arith))

-- what one leaves of the output
left_is : (t e o : List ℕ) → left (step_call t e o) ≡ drop (length (written (step_call t e o))) o
left_is t e o = rest_untouched t e o ∙ ap (λ (n : ℕ). drop n o) (sym (written_length t e o))

fits_in : (t e o : List ℕ) → 4240 ≤ length o → length (written (step_call t e o)) ≤ length o
fits_in t e o h = omega (arith, written_length t e o, at_most_4240 t e o)

left_long : (t e o : List ℕ) → length (left (step_call t e o)) ≡ length o - length (written (step_call t e o))
left_long t e o = ap length (left_is t e o) ∙ length-drop (length (written (step_call t e o))) o

-- They are the first of the frames; they fit into the output; all are made, or there is no room for the next.
pub record Calls (fs : List (List ℕ)) (t o : List ℕ) (s : List Single) : Type 0 where
  pub events : events_of s ≡ end_to_end (take (length s) fs)
  pub few : length s ≤ length fs
  pub fit : length (written_by s) ≤ length o
  pub table : length (table_after t s) ≡ length t
  pub why : (length s ≡ length fs) ⊎ (length o - length (written_by s) < 4240)

pub calls : (fs : List (List ℕ)) (t o : List ℕ) → Calls fs t o (singly fs t o)
calls =
    each_call Calls
    (λ t o. record { events = refl; few = omega arith; fit = omega arith; table = refl; why = inl refl })
    (λ e fs t o h. record { events = refl; few = omega arith; fit = omega arith; table = refl; why = inr (omega (arith, h)) })
    (λ e fs t o s h p.
    let n = length-append (written (step_call t e o)) (written_by s) in
    let m = left_long t e o in
    let f = fits_in t e o h in
    record {
      events = ap (λ (l : List ℕ). e ++ l) p.events;
      few = omega (arith, p.few);
      fit = omega (arith, p.fit, n, m, f);
      table = p.table ∙ (same_lengths t e o).0;
      why = ⊎_elim (λ x. inl (ap suc x)) (λ y. inr (omega (arith, y, n, m, f))) p.why;
    })

-- PAST WHAT WAS WRITTEN
pub burst_rest_untouched : BurstRestUntouched
burst_rest_untouched t es o l =
    either_burst t es o l (λ c. BurstUntouched t o l c) (λ x e. record { output = refl; list = refl; lengths = (refl, refl, refl) })
    (λ p.
    let s = singly (frames es) t o in
    let k = calls (frames es) t o in
    let n = numbers_length s in
    record {
      output = over_rest (written_by s) o;
      list = ap (λ (m : ℕ). drop m (over (numbers_of s) l)) (sym n) ∙ over_rest (numbers_of s) l ∙ ap (λ (m : ℕ). drop m l) n;
      lengths = (k.table, length_over (written_by s) o k.fit, length_over (numbers_of s) l (omega (arith, n, k.few, p.places)));
    })

others : (k : ℕ) (fs : List (List ℕ)) (t o : List ℕ) → NamedByNone k (take (length (singly fs t o)) fs) → record_at (table_after t (singly fs t o)) k ≡ record_at t k
others k =
    each_call (λ fs t o s. NamedByNone k (take (length s) fs) → record_at (table_after t s) k ≡ record_at t k) (λ t o h. refl) (λ e fs t o r h. refl)
    (λ e fs t o s r p h. p h.1 ∙ others_untouched t e o k h.0)

pub burst_others_untouched : BurstOthersUntouched
burst_others_untouched t es o l k =
    either_burst t es o l (λ c. NamedByNone k (take c.answer.taken (frames es)) → record_at c.table k ≡ record_at t k) (λ x e h. refl) (λ p. others k (frames es) t o)

-- THE FRAMES of octets

-- those from the j-th on
record From (es : List ℕ) (fs : List (List ℕ)) (j : ℕ) : Type 0 where
  those : frames (drop (length (end_to_end (take j fs))) es) ≡ drop j fs
  within : length (end_to_end (take j fs)) ≤ length es

from : (j : ℕ) (es : List ℕ) (fs : List (List ℕ)) → frames es ≡ fs → From es fs j
from zero es fs h = record { those = h; within = omega arith }
from (suc j) es [] h = record { those = h; within = omega arith }
from (suc j) es (f ∷ fs) h =
    let g = found_one es f fs h in
    let r = from j (events.behind es) fs (sym g.are_behind) in
    let x = end_to_end (take j fs) in
    let n : length (f ++ x) ≡ 12 + length_at es + length x = length-append f x ∙ omega (arith, ap length g.is_front, front_long es g.is_sound) in
    record {
      those = ap (λ (k : ℕ). frames (drop k es)) n ∙ ap frames (sym (drop-drop (length x) (12 + length_at es) es)) ∙ r.those;
      within = omega (arith, n, r.within, length-drop (12 + length_at es) es, (well_formed_lem es g.is_sound).within);
    }

-- sound with others behind it
module _ (es others : List ℕ) (s : sound es ≡ true) where
  same_at : (i : ℕ) → i < 12 → at (es ++ others) i ≡ at es i
  same_at i h = get_or-append es others 0 i (omega (arith, h, (well_formed_lem es s).twelve))

  length_and : length_at (es ++ others) ≡ length_at es
  length_and =
      let a = same_at 10 (omega arith) in
      let b = same_at 11 (omega arith) in
      (λ i. two (a i) (b i))

  sound_and : sound (es ++ others) ≡ true
  sound_and =
      let w = well_formed_lem es s in
      let n = length-append es others in
      (sound_is_well_formed (es ++ others)).1
      (record {
        twelve = omega (arith, n, w.twelve);
        mark₀ = same_at 0 (omega arith) ∙ w.mark₀;
        mark₁ = same_at 1 (omega arith) ∙ w.mark₁;
        nine = same_at 9 (omega arith) ∙ w.nine;
        few = omega (arith, length_and, w.few);
        within = omega (arith, length_and, n, w.within);
      })

  front_and : front (es ++ others) ≡ front es
  front_and =
      ap (λ (n : ℕ). take (12 + n) (es ++ others)) length_and ∙ take-append-le (12 + length_at es) es others (well_formed_lem es s).within

  behind_and : events.behind (es ++ others) ≡ events.behind es ++ others
  behind_and =
      ap (λ (n : ℕ). drop (12 + n) (es ++ others)) length_and ∙ drop-append-le (12 + length_at es) es others (well_formed_lem es s).within

frames_and : (fs : List (List ℕ)) (es others : List ℕ) → frames es ≡ fs → end_to_end fs ≡ es → frames (es ++ others) ≡ fs ++ frames others
frames_and [] es others h e = ap (λ (l : List ℕ). frames (l ++ others)) (sym e)
frames_and (f ∷ fs) es others h e =
    let g = found_one es f fs h in
    let s = g.is_sound in
    let b : end_to_end fs ≡ events.behind es = append_cancel_left (front es) (end_to_end fs) (events.behind es) (ap (λ (l : List ℕ). l ++ end_to_end fs) (sym g.is_front) ∙ e ∙ sym (take-append-drop (12 + length_at es) es)) in
    a_frame (es ++ others) (sound_and es others s)
    ∙ (λ i. front_and es others s i ∷ frames (behind_and es others s i))
    ∙ ap (λ (x : List ℕ). x ∷ frames (events.behind es ++ others)) (sym g.is_front)
    ∙ ap (λ (l : List (List ℕ)). f ∷ l) (frames_and fs (events.behind es) others (sym g.are_behind) b)

-- IT IS OPEN where it is not refused
open_of : (t es o l : List ℕ) → (burst_call t es o l).answer.refusal ≡ 0 → Open t es o l
open_of t es o l = either_burst t es o l (λ c. c.answer.refusal ≡ 0 → Open t es o l) (λ x e h. absurd (omega (arith, number_above x, h))) (λ p h. p)

passed_is : (t es o l : List ℕ) → Open t es o l → burst_call t es o l ≡ came (singly (frames es) t o) t es o l
passed_is t es o l p = burst_passed t es o l (both t es o l p)

-- ONE EVENT
module _ (e : List ℕ) (f : framed e ≡ true) where
  front_is : front e ≡ e
  front_is = ap (λ (n : ℕ). take n e) (frame.sound EV e f).follows ∙ take-length e

  only_frame : frames e ≡ e ∷ []
  only_frame =
      let n = (frame.sound EV e f).follows in
      let b : events.behind e ≡ [] = ap (λ (k : ℕ). drop k e) n ∙ drop-length e in
      a_frame e (ap framed front_is ∙ f) ∙ (λ i. front_is i ∷ frames (b i)) ∙ ap (λ (fs : List (List ℕ)). e ∷ fs) (no_frame [] (broken [] (λ w. omega (arith, w.twelve))))

pub one_event : OneEvent
unfolding over
one_event t e o l n good f room =
    let c = step_call t e o in
    let fs = only_frame e f in
    let s : singly (frames e) t o ≡ single t e o ∷ [] = ap (λ (x : List (List ℕ)). singly x t o) fs ∙ one_more [] t e o room in
    let a = append-nil e in
    let w = append-nil (written c) in
    let k : length (written c ++ []) ≡ c.answer.octets = ap length w ∙ written_length t e o in
    let b : broken_at (drop (length (e ++ [])) e) ≡ 0 = ap (λ (x : List ℕ). broken_at (drop (length x) e)) a ∙ ap broken_at (drop-length e) in
    let m : c.answer.signals + 0 ≡ c.answer.signals = omega arith in
    passed_is t e o (n ∷ l) (record { good = good; places = omega (arith, ap length fs) })
    ∙ ap (λ (x : List Single). came x t e o (n ∷ l)) s
    ∙ (λ i. bursting (burst_answered 0 (b i) 1 (length (a i)) (k i) (m i)) c.table (over (w i) o) (c.answer.refusal ∷ l))
    ∙ ap (λ (x : List ℕ). bursting (burst_answered 0 0 1 (length e) c.answer.octets c.answer.signals) c.table x (c.answer.refusal ∷ l)) (sym (output_is t e o))

-- IT STOPS
module _ (t es o : List ℕ) where
  abbrev S : List Single
  S = singly (frames es) t o

  abbrev rest : List ℕ
  rest = drop (length (events_of S)) es

  rest_frames : frames rest ≡ drop (length S) (frames es)
  rest_frames = ap (λ (x : List ℕ). frames (drop (length x) es)) (calls (frames es) t o).events ∙ (from (length S) es (frames es) refl).those

  rest_inside : length (events_of S) ≤ length es
  rest_inside = omega (arith, ap length (calls (frames es) t o).events, (from (length S) es (frames es) refl).within)

  -- a frame that was not taken is sound
  not_taken : length S < length (frames es) → sound rest ≡ true
  not_taken h = found rest (omega (arith, ap length rest_frames, length-drop (length S) (frames es)))

  all_done : length S ≡ length (frames es) → frames rest ≡ []
  all_done h = rest_frames ∙ ap (λ (n : ℕ). drop n (frames es)) h ∙ drop-length (frames es)

  abbrev Why : ℕ → Type 0
  Why b =
      ((length (events_of S) ≡ length es) × (b ≡ 0))
      ⊎ (((length (events_of S) < length es) × (sound rest ≡ false) × (b ≡ 2))
      ⊎ ((sound rest ≡ true) × (length o - length (written_by S) < 4240) × (b ≡ 0)))

  -- a sound frame is left: then not all were taken, for want of room
  short_of_room : sound rest ≡ true → length o - length (written_by S) < 4240
  short_of_room s = ⊎_elim (λ x. absurd (omega (arith, ap length (sym (all_done x) ∙ a_frame rest s)))) (λ y. y) (calls (frames es) t o).why

  why_stops : Why (broken_at rest)
  why_stops = by (eqb (length rest) 0) (sound rest) refl refl where
    by : (a b : Bool) → eqb (length rest) 0 ≡ a → sound rest ≡ b → Why (cond (a || b) 0 (number Refusal.Frame))
    by true b e s = inl (omega (arith, eqb-true (length rest) 0 e, length-drop (length (events_of S)) es, rest_inside), refl)
    by false true e s = inr (inr (s, short_of_room s, refl))
    by false false e s = inr (inl (omega (arith, eqb-false (length rest) 0 e, length-drop (length (events_of S)) es), s, refl))

pub stops_only : StopsOnly
stops_only t es o l =
    either_burst t es o l (λ c. c.answer.refusal ≡ 0 → Stops es o c) (λ x e h. absurd (omega (arith, number_above x, h)))
    (λ p h. record { inside = rest_inside t es o; others = rest_frames t es o; why = why_stops t es o })

pub no_events : NoEvents
unfolding over
no_events t o l good =
    let f : frames [] ≡ [] = no_frame [] (broken [] (λ w. omega (arith, w.twelve))) in
    passed_is t [] o l (record { good = good; places = omega (arith, ap length f) }) ∙ ap (λ (fs : List (List ℕ)). came (singly fs t o) t [] o l) f

-- with room for each all are made
room_for_each : (fs : List (List ℕ)) (t o : List ℕ) → 4240 + 12 * length (end_to_end fs) ≤ length o → length (singly fs t o) ≡ length fs
room_for_each =
    each_call (λ fs t o s. 4240 + 12 * length (end_to_end fs) ≤ length o → length s ≡ length fs) (λ t o h. refl) (λ e fs t o r h. absurd (omega (arith, r, h)))
    (λ e fs t o s r p h. ap suc (p (omega (arith, h, left_long t e o, written_length t e o, at_most_twelvefold t e o, length-append e (end_to_end fs)))))

all_within : (es : List ℕ) → length (end_to_end (frames es)) ≤ length es
all_within es = omega (arith, (from (length (frames es)) es (frames es) refl).within, ap (λ (fs : List (List ℕ)). length (end_to_end fs)) (take-length (frames es)))

pub always_room : AlwaysRoom
always_room t es o l =
    either_burst t es o l (λ c. c.answer.refusal ≡ 0 → 4240 + 12 * length es ≤ length o → c.answer.taken ≡ length (frames es)) (λ x e h. absurd (omega (arith, number_above x, h)))
    (λ p h g. room_for_each (frames es) t o (omega (arith, g, all_within es)))

pub always_place : AlwaysPlace
always_place t es o l h r =
    by (bad_table t) refl where
      by : (b : Bool) → bad_table t ≡ b → ⊥
      by true b = omega (arith, sym r ∙ ap (λ (c : BurstOutcome). c.answer.refusal) (burst_refused t es o l Refusal.Table (rw b)))
      by false b = omega (arith, sym r ∙ ap (λ (c : BurstOutcome). c.answer.refusal) (passed_is t es o l (record { good = b; places = omega (arith, h, few_frames es) })))

-- SPLIT IN TWO
two_runs : (gs fs : List (List ℕ)) (t o : List ℕ) → let s = singly fs t o in
    (length s ≡ length fs → singly (fs ++ gs) t o ≡ s ++ singly gs (table_after t s) (drop (length (written_by s)) o)) × (length s < length fs → singly (fs ++ gs) t o ≡ s)
two_runs gs =
    each_call
    (λ fs t o s. (length s ≡ length fs → singly (fs ++ gs) t o ≡ s ++ singly gs (table_after t s) (drop (length (written_by s)) o)) × (length s < length fs → singly (fs ++ gs) t o ≡ s))
    (λ t o. (λ h. refl, λ h. absurd (omega (arith, h))))
    (λ e fs t o h. (λ x. absurd (omega (arith, x)), λ x. no_room (e ∷ fs ++ gs) t o h))
    (λ e fs t o s h p.
    let c = step_call t e o in
    let d : drop (length (written_by s)) (left c) ≡ drop (length (written c ++ written_by s)) o = ap (drop (length (written_by s))) (left_is t e o) ∙ drop-drop (length (written_by s)) (length (written c)) o ∙ ap (λ (n : ℕ). drop n o) (sym (length-append (written c) (written_by s))) in (
      λ x. one_more (fs ++ gs) t e o h ∙ ap (λ (r : List Single). single t e o ∷ r) (p.0 (omega (arith, x)) ∙ ap (λ (r : List ℕ). s ++ singly gs (table_after c.table s) r) d),
      λ x. one_more (fs ++ gs) t e o h ∙ ap (λ (r : List Single). single t e o ∷ r) (p.1 (omega (arith, x))),
    ))

-- written in two
over_two : (a b d : List ℕ) → over (a ++ b) d ≡ take (length a) (over a d) ++ over b (drop (length a) (over a d))
unfolding over
over_two a b d =
    append_assoc a b (drop (length (a ++ b)) d)
    ∙ ap (λ (n : ℕ). a ++ (b ++ drop n d)) (length-append a b)
    ∙ ap (λ (r : List ℕ). a ++ (b ++ r)) (sym (drop-drop (length b) (length a) d))
    ∙ (λ i. sym (over_front a d) i ++ (b ++ drop (length b) (sym (over_rest a d) i)))

module _ (t es others o l : List ℕ) (ev : Events es) where
  abbrev s₁ : List Single
  s₁ = singly (frames es) t o

  abbrev a : BurstOutcome
  a = came s₁ t es o l

  abbrev o₂ : List ℕ
  o₂ = drop (length (written_by s₁)) (over (written_by s₁) o)

  abbrev l₂ : List ℕ
  l₂ = drop (length s₁) (over (numbers_of s₁) l)

  abbrev s₂ : List Single
  s₂ = singly (frames others) (table_after t s₁) o₂

  frames_two : frames (es ++ others) ≡ frames es ++ frames others
  frames_two = frames_and (frames es) es others refl ev

  all_events : length s₁ ≡ length (frames es) → events_of s₁ ≡ es
  all_events h = (calls (frames es) t o).events ∙ ap (λ (n : ℕ). end_to_end (take n (frames es))) h ∙ ap end_to_end (take-length (frames es)) ∙ ev

  both_runs : length s₁ ≡ length (frames es) → singly (frames (es ++ others)) t o ≡ s₁ ++ s₂
  both_runs h =
      ap (λ (fs : List (List ℕ)). singly fs t o) frames_two
      ∙ (two_runs (frames others) (frames es) t o).0 h
      ∙ ap (λ (r : List ℕ). s₁ ++ singly (frames others) (table_after t s₁) r) (sym (over_rest (written_by s₁) o))

  give_together : length s₁ ≡ length (frames es) → came (s₁ ++ s₂) t (es ++ others) o l ≡ together a (came s₂ (table_after t s₁) others o₂ l₂)
  give_together h =
      let ea = events_and s₁ s₂ in
      let el : length (events_of (s₁ ++ s₂)) ≡ length (events_of s₁) + length (events_of s₂) = ap length ea ∙ length-append (events_of s₁) (events_of s₂) in
      let b : broken_at (drop (length (events_of (s₁ ++ s₂))) (es ++ others)) ≡ broken_at (drop (length (events_of s₂)) others) =
      ap (λ (n : ℕ). broken_at (drop n (es ++ others))) (el ∙ ap (λ (x : List ℕ). length x + length (events_of s₂)) (all_events h)) ∙ ap broken_at (drop-append-add es others (length (events_of s₂))) in
      let w = written_and s₁ s₂ in
      let wl : length (written_by (s₁ ++ s₂)) ≡ length (written_by s₁) + length (written_by s₂) = ap length w ∙ length-append (written_by s₁) (written_by s₂) in
      let ol : over (written_by (s₁ ++ s₂)) o ≡ take (length (written_by s₁)) (over (written_by s₁) o) ++ over (written_by s₂) o₂ = ap (λ (x : List ℕ). over x o) w ∙ over_two (written_by s₁) (written_by s₂) o in
      let ll : over (numbers_of (s₁ ++ s₂)) l ≡ take (length s₁) (over (numbers_of s₁) l) ++ over (numbers_of s₂) l₂ =
      ap (λ (x : List ℕ). over x l) (numbers_and s₁ s₂) ∙ over_two (numbers_of s₁) (numbers_of s₂) l ∙ (λ i. take (numbers_length s₁ i) (over (numbers_of s₁) l) ++ over (numbers_of s₂) (drop (numbers_length s₁ i) (over (numbers_of s₁) l))) in
      (λ i. bursting (burst_answered 0 (b i) (length-append s₁ s₂ i) (el i) (wl i) (signals_and s₁ s₂ i)) (table_and t s₁ s₂ i) (ol i) (ll i))

  -- the second one is open where the whole is
  second_open : length s₁ ≡ length (frames es) → Open t (es ++ others) o l → Open (table_after t s₁) others o₂ l₂
  second_open h p =
      let n = numbers_length s₁ in
      let m = length-append (frames es) (frames others) in
      record {
        good = as_good t (table_after t s₁) (calls (frames es) t o).table p.good;
        places = omega (arith, p.places, ap length frames_two, m, h, n, length-drop (length s₁) (over (numbers_of s₁) l), length_over (numbers_of s₁) l (omega (arith, n, h, p.places, ap length frames_two, m)));
      }

  first_open : Open t (es ++ others) o l → Open t es o l
  first_open p = record { good = p.good; places = omega (arith, p.places, ap length frames_two, length-append (frames es) (frames others)) }

  taken_all : Open t (es ++ others) o l → length s₁ ≡ length (frames es) → burst_call t (es ++ others) o l ≡ together a (then a others)
  taken_all p h =
      passed_is t (es ++ others) o l p
      ∙ ap (λ (s : List Single). came s t (es ++ others) o l) (both_runs h)
      ∙ give_together h
      ∙ ap (together a) (sym (passed_is (table_after t s₁) others o₂ l₂ (second_open h p)))

  stopped : Open t (es ++ others) o l → length s₁ < length (frames es) → burst_call t (es ++ others) o l ≡ a
  stopped p h =
      let s = not_taken t es o h in
      let d : drop (length (events_of s₁)) (es ++ others) ≡ drop (length (events_of s₁)) es ++ others = drop-append-le (length (events_of s₁)) es others (rest_inside t es o) in
      let b : broken_at (drop (length (events_of s₁)) (es ++ others)) ≡ broken_at (drop (length (events_of s₁)) es) =
      ap broken_at d ∙ sym (sound_there (drop (length (events_of s₁)) es ++ others) (sound_and (drop (length (events_of s₁)) es) others s)) ∙ sound_there (drop (length (events_of s₁)) es) s in
      passed_is t (es ++ others) o l p
      ∙ ap (λ (x : List Single). came x t (es ++ others) o l) (ap (λ (fs : List (List ℕ)). singly fs t o) frames_two ∙ (two_runs (frames others) (frames es) t o).1 h)
      ∙ (λ i. bursting (burst_answered 0 (b i) (length s₁) (length (events_of s₁)) (length (written_by s₁)) (signals_by s₁)) (table_after t s₁) (over (written_by s₁) o) (over (numbers_of s₁) l))

pub split_in_two : SplitInTwo
split_in_two t es others o l ev h =
    let p = open_of t (es ++ others) o l h in
    let e = passed_is t es o l (first_open t es others o l ev p) in (
      ap (λ (c : BurstOutcome). c.answer.refusal) e,
      λ n. taken_all t es others o l ev p (ap (λ (c : BurstOutcome). c.answer.taken) (sym e) ∙ n) ∙ ap (λ (c : BurstOutcome). together c (then c others)) (sym e),
      λ n. stopped t es others o l ev p (omega (arith, n, ap (λ (c : BurstOutcome). c.answer.taken) e)) ∙ sym e,
    )

-- A BROKEN FRAME
abbrev AsWithout : BurstOutcome → BurstOutcome → Type 0
AsWithout a c =
    c ≡ bursting (burst_answered a.answer.refusal c.answer.broken a.answer.taken a.answer.at a.answer.octets a.answer.signals) a.table a.output a.list

pub broken_stands : BrokenStands
broken_stands t es others o l ev b = by (first (burst_checks t es l)) refl where
  same_frames : frames (es ++ others) ≡ frames es
  same_frames = frames_two t es others o l ev ∙ ap (λ (fs : List (List ℕ)). frames es ++ fs) (no_frame others b) ∙ append-nil (frames es)

  same_verdict : first (burst_checks t (es ++ others) l) ≡ first (burst_checks t es l)
  same_verdict = rw same_frames

  by : (v : Verdict Refusal) → first (burst_checks t es l) ≡ v → AsWithout (burst_call t es o l) (burst_call t (es ++ others) o l)
  by (refused x) h =
      subst (λ (a : BurstOutcome). AsWithout a (burst_call t (es ++ others) o l)) (sym (burst_refused t es o l x h))
      (subst (AsWithout (bursting (burst_answered (number x) 0 0 0 0 0) t o l)) (sym (burst_refused t (es ++ others) o l x (same_verdict ∙ h))) refl)
  by passed h =
      subst (λ (a : BurstOutcome). AsWithout a (burst_call t (es ++ others) o l)) (sym (burst_passed t es o l h))
      (subst (AsWithout (came (singly (frames es) t o) t es o l))
      (sym (burst_passed t (es ++ others) o l (same_verdict ∙ h) ∙ ap (λ (fs : List (List ℕ)). came (singly fs t o) t (es ++ others) o l) same_frames)) refl)

-- THE FRAME ALONE: what is not sound at the front is no event by itself
not_framed : (es : List ℕ) → sound es ≡ false → framed es ≡ false
not_framed es s = by (framed es) refl where
  by : (b : Bool) → framed es ≡ b → b ≡ false
  by true f = absurd (true≢false (sym (ap framed (front_is es f) ∙ f) ∙ s))
  by false f = refl

pub broken_refused : BrokenRefused
broken_refused t es o l p h b =
    let w = open_of t es o l h in
    let c = burst_call t es o l in
    let good = as_good t c.table (burst_rest_untouched t es o l).lengths.0 w.good in
    let f = not_framed (drop c.answer.at es) (told (stops_only t es o l h).why) in
    ap (λ (z : Outcome). z.answer.refusal) (step_refused c.table (drop c.answer.at es) p Refusal.Frame (rw (good, f)))
  where
    told : (((burst_call t es o l).answer.at ≡ length es) × ((burst_call t es o l).answer.broken ≡ 0))
        ⊎ ((((burst_call t es o l).answer.at < length es) × (sound (drop (burst_call t es o l).answer.at es) ≡ false) × ((burst_call t es o l).answer.broken ≡ 2))
        ⊎ ((sound (drop (burst_call t es o l).answer.at es) ≡ true) × (length o - (burst_call t es o l).answer.octets < 4240) × ((burst_call t es o l).answer.broken ≡ 0)))
        → sound (drop (burst_call t es o l).answer.at es) ≡ false
    told = ⊎_elim (λ x. absurd (omega (arith, b, x.1))) (⊎_elim (λ y. y.1) (λ z. absurd (omega (arith, b, z.2))))

-- ASKED BEFORE: of a good table, a sound frame and room, a single call answers none of 1, 2 and 9.
abbrev Given : ℕ → Type 0
Given n = (n ≡ 3) ⊎ (((5 ≤ n) × (n ≤ 8)) ⊎ ((10 ≤ n) × (n ≤ 12)))

abbrev Late : ℕ → Type 0
Late n = (n ≡ 0) ⊎ Given n

abbrev Mid : Verdict Refusal → Type 0
Mid passed = Unit {0}
Mid (refused r) = Given (number r)

between : (c : Bool) (w : Verdict Fault) (e f g h : Bool) →
    Mid (cond c (refused Refusal.Code) (onward Refusal.Field w (cond e (refused Refusal.Link) (cond f (refused Refusal.Record) (cond g (refused Refusal.Timer) (cond h (refused Refusal.Cell) passed))))))
between true w e f g h = inl refl
between false (refused (Fault.NotCarried q)) e f g h = inr (inr (omega arith, omega arith))
between false (refused (Fault.OutOfRange q)) e f g h = inr (inr (omega arith, omega arith))
between false (refused (Fault.Short q)) e f g h = inr (inr (omega arith, omega arith))
between false passed true f g h = inr (inl (omega arith, omega arith))
between false passed false true g h = inr (inl (omega arith, omega arith))
between false passed false false true h = inr (inl (omega arith, omega arith))
between false passed false false false true = inr (inl (omega arith, omega arith))
between false passed false false false false = tt

mid : (t e : List ℕ) (room : ℕ) → bad_table t ≡ false → framed e ≡ true → 4240 ≤ room → Mid (first (checks t e room))
mid t e room a b c =
    rw (a, b)
    (subst (λ (v : Verdict Refusal). Mid (cond (unknown (coded_in e)) (refused Refusal.Code) v)) (sym (field_checks_lem t e room))
    (rw (le-ltb room 4240 c)
    (between (unknown (coded_in e)) (first (field_checks (code_at e) (fields_in e))) (leb (records t) (link_at e)) (not (well_formed (record_at t (link_at e)))) (idle (link_for t e) (code_at e))
    (is_illegal (machine.step_of (link_for t e) (event_of e))))))

late_call : (t e o : List ℕ) → bad_table t ≡ false → framed e ≡ true → 4240 ≤ length o → Late (step_call t e o).answer.refusal
unfolding step_call
late_call t e o a b c = by_verdict (first (checks t e (length o))) (mid t e (length o) a b c) where
  by_cell : (w : machine.Outcome) → let z = performed w t (link_at e) (message_of e) o in Late z.answer.refusal
  by_cell machine.Illegal = inr (inr (inl (omega arith, omega arith)))
  by_cell (machine.Legal next signals) = inl refl

  by_verdict : (v : Verdict Refusal) → Mid v → let z = outcome v t e o in Late z.answer.refusal
  by_verdict (refused x) m = inr m
  by_verdict passed m = by_cell (machine.step_of (link_for t e) (event_of e))

abbrev AllFramed : List (List ℕ) → Type 0
AllFramed [] = Unit {0}
AllFramed (e ∷ fs) = (framed e ≡ true) × AllFramed fs

all_framed : (fs : List (List ℕ)) (es : List ℕ) → frames es ≡ fs → AllFramed fs
all_framed [] es h = tt
all_framed (f ∷ fs) es h =
    let g = found_one es f fs h in
    (ap framed g.is_front ∙ g.is_sound, all_framed fs (events.behind es) (sym g.are_behind))

abbrev AllLate : List ℕ → Type 0
AllLate [] = Unit {0}
AllLate (n ∷ ns) = Late n × AllLate ns

all_late : (fs : List (List ℕ)) (t o : List ℕ) → bad_table t ≡ false → AllFramed fs → AllLate (numbers_of (singly fs t o))
all_late =
    each_call (λ fs t o s. bad_table t ≡ false → AllFramed fs → AllLate (numbers_of s)) (λ t o a b. tt) (λ e fs t o h a b. tt)
    (λ e fs t o s h p a b. (late_call t e o a b.0 h, p (as_good t (step_call t e o).table (same_lengths t e o).0 a) b.1))

one_of : (ns : List ℕ) (i : ℕ) → i < length ns → AllLate ns → Late (get_or ns i 0)
one_of [] i h a = absurd (omega (arith, h))
one_of (n ∷ ns) zero h a = a.0
one_of (n ∷ ns) (suc i) h a = one_of ns i (omega (arith, h)) a.1

pub asked_before : AskedBefore
unfolding over
asked_before t es o l i =
    either_burst t es o l (λ c. i < c.answer.taken → Late (get_or c.list i 0)) (λ x e h. absurd (omega (arith, h)))
    (λ p h.
    let ns = numbers_of (singly (frames es) t o) in
    let k : i < length ns = omega (arith, h, numbers_length (singly (frames es) t o)) in
    subst Late (sym (get_or-append ns (drop (length ns) l) 0 i k)) (one_of ns i k (all_late (frames es) t o p.good (all_framed (frames es) es refl))))
