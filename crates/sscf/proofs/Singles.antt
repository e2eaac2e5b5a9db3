-- A burst's single calls: how one more is added to those that are done. Assumes nothing.
use Rattle.std.specs.Prelude.{Option, Some, None}
use Rattle.std.proofs.lemmas.Option.{none-some, cond_some}
use mathlib.Core.Path.{◌≡◌, refl, sym, ap, ◌∙◌}
use mathlib.Core.Bool.{Bool, true, false, cond, or-true}
use mathlib.Core.List.{List, [], ◌∷◌, ◌++◌, append_assoc, append-nil}
use Prim.Native.Nat.{ℕ, zero, suc, ◌+◌, ◌-◌, ◌*◌, ◌≤◌, ◌<◌}
use native.Mathlib.Omega.{arith}
use lib.Dec.{eqb, ltb}
use lib.ListN.{length, take, drop, set, length-append, length-drop, length-set, take-append-drop}
use lib.Seq.{take_all, length-take-le, drop-drop}
use borrow.Author.Tests.{lt-ltb, le-ltb, ltb-true, ltb-false, ne_eqb}
use Rattle.link.specs.declared.Signal.{Signal}
use Rattle.octet.specs.Octets.{over, put_at}
use Rattle.octet.proofs.Over.{length_over, over_rest, behind, lent}
use Rattle.event.specs.Frame.{SG, link_at, length_at, message_of}
use Rattle.event.specs.EndToEnd as events
use Rattle.event.specs.EndToEnd.{front, sound, frames}
use Rattle.event.proofs.Frame as frame
use Rattle.event.proofs.EndToEnd.{well_formed_lem, frames_one_by_one}
use Rattle.signal.specs.SignalRecord.{body_of, signal_octets, joined}
use Rattle.step.specs.declared.Answer.{Answer}
use Rattle.step.specs.Step.{bad_table, Outcome, answering, step_call}
use Rattle.sscf.specs.Burst.{written, left, Single, singly, events_of, numbers_of, written_by, signals_by, table_after, bursting, burst_answered, broken_at, came}
use Rattle.step.proofs.Taken.{taken, room_for}
use Rattle.step.proofs.Untouched.{either_way, same_lengths, rest_untouched, at_most_4240}

-- THE FRAMES, as the code finds them

-- the first: its head of twelve octets and its message
pub front_long : (es : List ℕ) → sound es ≡ true → length (front es) ≡ 12 + length_at es
front_long es s = length-take-le (12 + length_at es) es (well_formed_lem es s).within

-- a part from i to the end
pub rest_is : (l : List ℕ) (i : ℕ) → take (length l - i) (drop i l) ≡ drop i l
rest_is l i = take_all (length l - i) (drop i l) (simp length-drop (omega arith))

pub no_frame : (es : List ℕ) → sound es ≡ false → frames es ≡ []
no_frame es s = frames_one_by_one es ∙ rw s

pub a_frame : (es : List ℕ) → sound es ≡ true → frames es ≡ front es ∷ frames (events.behind es)
a_frame es s = frames_one_by_one es ∙ rw s

pub found : (es : List ℕ) → 1 ≤ length (frames es) → sound es ≡ true
found es h = by (sound es) refl where
  by : (b : Bool) → sound es ≡ b → b ≡ true
  by true s = refl
  by false s = absurd (omega (arith, h, ap length (no_frame es s)))

abbrev hd : List (List ℕ) → List ℕ
hd [] = []
hd (f ∷ fs) = f

abbrev tl : List (List ℕ) → List (List ℕ)
tl [] = []
tl (f ∷ fs) = fs

-- where there is one, it is the front, and the others are those behind it
pub record Found (es f : List ℕ) (fs : List (List ℕ)) : Type 0 where
  pub is_sound : sound es ≡ true
  pub is_front : f ≡ front es
  pub are_behind : fs ≡ frames (events.behind es)

pub found_one : (es f : List ℕ) (fs : List (List ℕ)) → frames es ≡ f ∷ fs → Found es f fs
found_one es f fs h =
    let s = found es (omega (arith, ap length h)) in
    let e = sym h ∙ a_frame es s in
    record { is_sound = s; is_front = ap hd e; are_behind = ap tl e }

-- each has twelve octets at least
few : (fs : List (List ℕ)) (es : List ℕ) → frames es ≡ fs → 12 * length fs ≤ length es
few [] es h = omega arith
few (f ∷ fs) es h =
    let g = found_one es f fs h in
    let w = well_formed_lem es g.is_sound in
    omega (arith, few fs (events.behind es) (sym g.are_behind), length-drop (12 + length_at es) es, w.within)

pub few_frames : (es : List ℕ) → 12 * length (frames es) ≤ length es
few_frames es = few (frames es) es refl

-- those behind the first, from its place on
pub behind_from : (es : List ℕ) (at n : ℕ) → n ≡ 12 + length_at (drop at es) → events.behind (drop at es) ≡ drop (at + n) es
behind_from es at n h = ap (λ (k : ℕ). drop k (drop at es)) (sym h) ∙ drop-drop n at es

-- WHAT THE READER OF THE FRONT TELLS of the events from `at` on: that none is there, or one of n octets, which lies within them and leaves one fewer.
abbrev pub told : List ℕ → ℕ → Option ℕ
told es at = let rest = take (length es - at) (drop at es) in cond (sound rest) (Some (12 + length_at rest)) None

told_is : (es : List ℕ) (at : ℕ) → told es at ≡ cond (sound (drop at es)) (Some (12 + length_at (drop at es))) None
told_is es at = ap (λ (l : List ℕ). cond (sound l) (Some (12 + length_at l)) None) (rest_is es at)

pub none_there : (es : List ℕ) (at : ℕ) → None ≡ told es at → sound (drop at es) ≡ false
none_there es at h = by (sound (drop at es)) (h ∙ told_is es at) where
  by : (b : Bool) → None ≡ cond b (Some (12 + length_at (drop at es))) None → b ≡ false
  by true g = absurd (none-some (12 + length_at (drop at es)) g)
  by false g = refl

pub record Next (es : List ℕ) (at n : ℕ) : Type 0 where
  pub here : sound (drop at es) ≡ true
  pub size : n ≡ 12 + length_at (drop at es)
  pub inside : at + n ≤ length es
  pub fewer : length (frames (drop at es)) ≡ 1 + length (frames (drop (at + n) es))

pub one_there : (es : List ℕ) (at n : ℕ) → at ≤ length es → Some n ≡ told es at → Next es at n
one_there es at n i h =
    let rest = drop at es in
    let t = cond_some (sound rest) (12 + length_at rest) n (sym (told_is es at) ∙ sym h) in
    record {
      here = t.0;
      size = sym t.1;
      inside = omega (arith, t.1, (well_formed_lem rest t.0).within, length-drop at es, i);
      fewer = omega (arith, ap length (a_frame rest t.0), ap (λ (r : List ℕ). length (frames r)) (behind_from es at n (sym t.1)));
    }

-- ONE CALL: its output is what it wrote over what it was given, and it says no more signals than octets
module _ (t e o : List ℕ) where
  pub written_length : length (written (step_call t e o)) ≡ (step_call t e o).answer.octets
  written_length =
      either_way t e o (λ z. length (written z) ≡ z.answer.octets) (λ x. refl)
      (λ next signals p m.
      let s = joined (link_at e) (message_of e) signals in
      let k = taken t e (length o) p in
      length-take-le (length s) (over s o) (omega (arith, length_over s o (omega (arith, room_for t e k.sound m, k.wide)), room_for t e k.sound m, k.wide)))

  pub output_is : (step_call t e o).output ≡ over (written (step_call t e o)) o
  unfolding over
  output_is =
      let c = step_call t e o in
      sym (take-append-drop c.answer.octets c.output)
      ∙ ap (λ (l : List ℕ). written c ++ l) (rest_untouched t e o ∙ ap (λ (n : ℕ). drop n o) (sym written_length))

counted : (k : ℕ) (m : List ℕ) (ss : List Signal) → length ss ≤ length (joined k m ss)
unfolding joined
counted k m [] = omega arith
counted k m (s ∷ ss) =
    omega (arith, counted k m ss, length-append (signal_octets k m s) (joined k m ss), frame.written_length SG k s.code s.param s.num (body_of s.carries m))

pub no_more_signals : (t e o : List ℕ) → (step_call t e o).answer.signals ≤ (step_call t e o).answer.octets
no_more_signals t e o =
    either_way t e o (λ z. z.answer.signals ≤ z.answer.octets) (λ x. omega arith) (λ next signals p m. counted (link_at e) (message_of e) signals)

-- THE CALLS
pub no_room : (fs : List (List ℕ)) (t o : List ℕ) → length o < 4240 → singly fs t o ≡ []
no_room [] t o h = refl
no_room (e ∷ fs) t o h = rw (lt-ltb (length o) 4240 h)

abbrev pub single : List ℕ → List ℕ → List ℕ → Single
single t e o = record { event = e; after = step_call t e o }

pub one_more : (fs : List (List ℕ)) (t e o : List ℕ) → 4240 ≤ length o → singly (e ∷ fs) t o ≡ single t e o ∷ singly fs (step_call t e o).table (left (step_call t e o))
one_more fs t e o h = rw (le-ltb (length o) 4240 h)

-- THE SINGLE CALLS of frames are none, for want of frames or of room, or one and those behind it.
module _ (P : List (List ℕ) → List ℕ → List ℕ → List Single → Type 0) (none : (t o : List ℕ) → P [] t o []) (short : (e : List ℕ) (fs : List (List ℕ)) (t o : List ℕ) → length o < 4240 → P (e ∷ fs) t o [])
    (more : (e : List ℕ) (fs : List (List ℕ)) (t o : List ℕ) (s : List Single) → 4240 ≤ length o → P fs (step_call t e o).table (left (step_call t e o)) s → P (e ∷ fs) t o (single t e o ∷ s)) where
  by_room : (e : List ℕ) (fs : List (List ℕ)) (t o : List ℕ) (s : List Single) → P fs (step_call t e o).table (left (step_call t e o)) s →
      (b : Bool) → ltb (length o) 4240 ≡ b → P (e ∷ fs) t o (cond b [] (single t e o ∷ s))
  by_room e fs t o s p true h = short e fs t o (ltb-true (length o) 4240 h)
  by_room e fs t o s p false h = more e fs t o s (ltb-false (length o) 4240 h) p

  pub each_call : (fs : List (List ℕ)) (t o : List ℕ) → P fs t o (singly fs t o)
  each_call [] t o = none t o
  each_call (e ∷ fs) t o =
      by_room e fs t o (singly fs (step_call t e o).table (left (step_call t e o))) (each_call fs (step_call t e o).table (left (step_call t e o))) (ltb (length o) 4240) refl

-- WHAT THEY COME TO, with some behind others
pub events_and : (a b : List Single) → events_of (a ++ b) ≡ events_of a ++ events_of b
events_and [] b = refl
events_and (s ∷ a) b = ap (λ (l : List ℕ). s.event ++ l) (events_and a b) ∙ sym (append_assoc s.event (events_of a) (events_of b))

pub written_and : (a b : List Single) → written_by (a ++ b) ≡ written_by a ++ written_by b
written_and [] b = refl
written_and (s ∷ a) b = ap (λ (l : List ℕ). written s.after ++ l) (written_and a b) ∙ sym (append_assoc (written s.after) (written_by a) (written_by b))

pub numbers_and : (a b : List Single) → numbers_of (a ++ b) ≡ numbers_of a ++ numbers_of b
numbers_and [] b = refl
numbers_and (s ∷ a) b = ap (λ (l : List ℕ). s.after.answer.refusal ∷ l) (numbers_and a b)

pub signals_and : (a b : List Single) → signals_by (a ++ b) ≡ signals_by a + signals_by b
signals_and [] b = omega arith
signals_and (s ∷ a) b = omega (arith, signals_and a b)

pub table_and : (t : List ℕ) (a b : List Single) → table_after t (a ++ b) ≡ table_after (table_after t a) b
table_and t [] b = refl
table_and t (s ∷ a) b = table_and s.after.table a b

pub numbers_length : (a : List Single) → length (numbers_of a) ≡ length a
numbers_length [] = refl
numbers_length (s ∷ a) = ap suc (numbers_length a)

-- a number stored is a list of one written
set_put : (l : List ℕ) (i v : ℕ) → i < length l → set l i v ≡ put_at l i (v ∷ [])
unfolding over put_at
set_put [] i v h = absurd (omega arith)
set_put (x ∷ l) zero v h = refl
set_put (x ∷ l) (suc i) v h = ap (λ (r : List ℕ). x ∷ r) (set_put l i v (omega arith))

-- WHERE A BURST HAS COME TO: some calls are done, and those of the frames from `at` on are left
pub record Reached (t₀ es o₀ l₀ t o l : List ℕ) (taken at put count : ℕ) : Type 0 where
  pub done : List Single
  pub whole : singly (frames es) t₀ o₀ ≡ done ++ singly (frames (drop at es)) t (drop put o)
  pub others : length (frames es) ≡ taken + length (frames (drop at es))
  pub taken_is : taken ≡ length done
  pub at_is : at ≡ length (events_of done)
  pub put_is : put ≡ length (written_by done)
  pub count_is : count ≡ signals_by done
  pub table_is : t ≡ table_after t₀ done
  pub out_is : o ≡ over (written_by done) o₀
  pub list_is : l ≡ over (numbers_of done) l₀
  pub at_in : at ≤ length es
  pub put_in : put ≤ length o₀
  pub few : count ≤ put
  pub same_t : length t ≡ length t₀
  pub same_o : length o ≡ length o₀
  pub same_l : length l ≡ length l₀

pub begins : (t es o l : List ℕ) → Reached t es o l t o l 0 0 0 0
unfolding over
begins t es o l =
    record {
      done = [];
      whole = refl;
      others = omega arith;
      taken_is = refl;
      at_is = refl;
      put_is = refl;
      count_is = refl;
      table_is = refl;
      out_is = refl;
      list_is = refl;
      at_in = omega arith;
      put_in = omega arith;
      few = omega arith;
      same_t = refl;
      same_o = refl;
      same_l = refl;
    }

-- none is left to be made
pub ends : {t₀ es o₀ l₀ t o l : List ℕ} {n at put count : ℕ} (r : Reached t₀ es o₀ l₀ t o l n at put count) (b : ℕ) → singly (frames (drop at es)) t (drop put o) ≡ [] →
    b ≡ broken_at (drop at es) → bursting (burst_answered 0 b n at put count) t o l ≡ came (singly (frames es) t₀ o₀) t₀ es o₀ l₀
ends {t₀} {es} {o₀} {l₀} {t} {o} {l} {n} {at} {put} {count} r b none e =
    let d = r.done in
    let w : singly (frames es) t₀ o₀ ≡ d = r.whole ∙ ap (λ (s : List Single). d ++ s) none ∙ append-nil d in
    (λ i. bursting (burst_answered 0 (e i) (r.taken_is i) (r.at_is i) (r.put_is i) (r.count_is i)) (r.table_is i) (r.out_is i) (r.list_is i))
    ∙ (λ i. bursting (burst_answered 0 (broken_at (drop (r.at_is i) es)) (length d) (length (events_of d)) (length (written_by d)) (signals_by d)) (table_after t₀ d) (over (written_by d) o₀) (over (numbers_of d) l₀))
    ∙ ap (λ (s : List Single). came s t₀ es o₀ l₀) (sym w)

-- WHERE IT STOPS: none is left, and what stands there
pub none_left : (es t o : List ℕ) → sound es ≡ false → singly (frames es) t o ≡ []
none_left es t o s = ap (λ (fs : List (List ℕ)). singly fs t o) (no_frame es s)

pub no_room_left : {t₀ es o₀ l₀ t o l : List ℕ} {n at put count : ℕ} (r : Reached t₀ es o₀ l₀ t o l n at put count) → length o - put < 4240 → singly (frames (drop at es)) t (drop put o) ≡ []
no_room_left {es = es} {t = t} {o = o} {at = at} {put = put} r h = no_room (frames (drop at es)) t (drop put o) (omega (arith, h, length-drop put o))

pub broken_there : (rest : List ℕ) → frames rest ≡ [] → 1 ≤ length rest → 2 ≡ broken_at rest
broken_there rest f h = rw (ne_eqb (length rest) 0 (λ e. omega (arith, h, e)), by (sound rest) refl) where
  by : (b : Bool) → sound rest ≡ b → b ≡ false
  by true s = absurd (omega (arith, ap length (sym f ∙ a_frame rest s)))
  by false s = refl

pub sound_there : (rest : List ℕ) → sound rest ≡ true → 0 ≡ broken_at rest
sound_there rest h = rw (h, or-true (eqb (length rest) 0))

-- past what was written nothing has changed
past_over : (s d : List ℕ) (n : ℕ) → length s ≤ n → drop n (over s d) ≡ drop n d
past_over s d n h =
    let j = n - length s in
    let e : n ≡ length s + j = omega arith in
    ap (λ (k : ℕ). drop k (over s d)) e
    ∙ sym (drop-drop j (length s) (over s d))
    ∙ ap (drop j) (over_rest s d)
    ∙ drop-drop j (length s) d
    ∙ ap (λ (k : ℕ). drop k d) (sym e)

-- a table of the same length is as good
pub as_good : (t₀ t : List ℕ) → length t ≡ length t₀ → bad_table t₀ ≡ false → bad_table t ≡ false
as_good t₀ t e h = rw e h

-- ONE MORE CALL: of the frame at `at`, of so many octets
module _ {t₀ es o₀ l₀ t o l : List ℕ} {n at put count size : ℕ} (r : Reached t₀ es o₀ l₀ t o l n at put count) (next : Next es at size) where
  pub more : n < length (frames es)
  more = omega (arith, r.others, next.fewer)

  module _ (room : 4240 ≤ length o - put) (places : length (frames es) ≤ length l₀) (a : Answer) (t' y : List ℕ)
      (q : answering a t' y ≡ step_call t (take (at + size - at) (drop at es)) (take (length o - put) (drop put o))) where
    abbrev pub C : Outcome
    C = step_call t (front (drop at es)) (drop put o)

    same : answering a t' y ≡ C
    same =
        let k : at + size - at ≡ 12 + length_at (drop at es) = omega (arith, next.size) in
        q ∙ (λ i. step_call t (take (k i) (drop at es)) (rest_is o put i))

    answer_is : a ≡ C.answer
    answer_is = ap (λ (z : Outcome). z.answer) same

    abbrev pub S : Single
    S = single t (front (drop at es)) (drop put o)

    abbrev pub done' : List Single
    done' = r.done ++ S ∷ []

    abbrev pub O' : List ℕ
    O' = take put o ++ (y ++ drop (length o - put) (drop put o))

    octets_long : length (written C) ≡ a.octets
    octets_long = written_length t (front (drop at es)) (drop put o) ∙ ap (λ (b : Answer). b.octets) (sym answer_is)

    written_is : written_by done' ≡ written_by r.done ++ written C
    written_is = written_and r.done (S ∷ []) ∙ ap (λ (w : List ℕ). written_by r.done ++ w) (append-nil (written C))

    put_is' : put + a.octets ≡ length (written_by done')
    put_is' = omega (arith, r.put_is, octets_long, length-append (written_by r.done) (written C), ap length written_is)

    fits : put + a.octets ≤ length o₀
    fits = omega (arith, room, r.same_o, ap (λ (b : Answer). b.octets) answer_is, at_most_4240 t (front (drop at es)) (drop put o))

    few' : count + a.signals ≤ put + a.octets
    few' =
        omega (arith, r.few, no_more_signals t (front (drop at es)) (drop put o), ap (λ (b : Answer). b.octets) answer_is, ap (λ (b : Answer). b.signals) answer_is)

    out_is' : O' ≡ over (written_by done') o₀
    out_is' =
        lent o y (written C) put (ap (λ (z : Outcome). z.output) same ∙ output_is t (front (drop at es)) (drop put o) ∙ ap (over (written C)) (sym (rest_is o put)))
        ∙ (λ i. put_at (r.out_is i) (r.put_is i) (written C))
        ∙ behind (written_by r.done) (written C) o₀
        ∙ ap (λ (w : List ℕ). over w o₀) (sym written_is)

    -- the output that the next has
    left_is : left C ≡ drop (put + a.octets) O'
    left_is =
        let k = a.octets in
        let p : length (written_by r.done) ≤ put + k = omega (arith, r.put_is) in
        rest_untouched t (front (drop at es)) (drop put o)
        ∙ ap (λ (m : ℕ). drop m (drop put o)) (ap (λ (b : Answer). b.octets) (sym answer_is))
        ∙ drop-drop k put o
        ∙ ap (drop (put + k)) r.out_is
        ∙ past_over (written_by r.done) o₀ (put + k) p
        ∙ sym (past_over (written_by done') o₀ (put + k) (omega (arith, put_is')))
        ∙ ap (drop (put + k)) (sym out_is')

    -- the frames that are left
    frames_are : frames (drop at es) ≡ front (drop at es) ∷ frames (drop (at + size) es)
    frames_are = a_frame (drop at es) next.here ∙ ap (λ (fs : List ℕ). front (drop at es) ∷ frames fs) (behind_from es at size next.size)

    whole' : singly (frames es) t₀ o₀ ≡ done' ++ singly (frames (drop (at + size) es)) t' (drop (put + a.octets) O')
    whole' =
        let lr : 4240 ≤ length (drop put o) = omega (arith, length-drop put o, room) in
        r.whole
        ∙ ap (λ (fs : List (List ℕ)). r.done ++ singly fs t (drop put o)) frames_are
        ∙ ap (λ (s : List Single). r.done ++ s) (one_more (frames (drop (at + size) es)) t (front (drop at es)) (drop put o) lr)
        ∙ (λ i. r.done ++ (S ∷ singly (frames (drop (at + size) es)) (sym same i).table (left_is i)))
        ∙ sym (append_assoc r.done (S ∷ []) (singly (frames (drop (at + size) es)) t' (drop (put + a.octets) O')))

    list_is' : set l n a.refusal ≡ over (numbers_of done') l₀
    list_is' =
        let ns = numbers_of r.done in
        let m : n ≡ length ns = r.taken_is ∙ sym (numbers_length r.done) in
        set_put l n a.refusal (omega (arith, more, places, r.same_l))
        ∙ (λ i. put_at (r.list_is i) (m i) ((answer_is i).refusal ∷ []))
        ∙ behind ns (C.answer.refusal ∷ []) l₀
        ∙ ap (λ (w : List ℕ). over w l₀) (sym (numbers_and r.done (S ∷ [])))

    pub turn : Reached t₀ es o₀ l₀ t' O' (set l n a.refusal) (n + 1) (at + size) (put + a.octets) (count + a.signals)
    turn =
        record {
          done = done';
          whole = whole';
          others = omega (arith, r.others, ap length frames_are);
          taken_is = omega (arith, r.taken_is, length-append r.done (S ∷ []));
          at_is = omega (arith, next.size, r.at_is, front_long (drop at es) next.here, ap length (events_and r.done (S ∷ [])), length-append (events_of r.done) (front (drop at es) ++ []), length-append (front (drop at es)) []);
          put_is = put_is';
          count_is = omega (arith, r.count_is, ap (λ (b : Answer). b.signals) answer_is, signals_and r.done (S ∷ []));
          table_is = ap (λ (z : Outcome). z.table) same ∙ sym (table_and t₀ r.done (S ∷ []));
          out_is = out_is';
          list_is = list_is';
          at_in = next.inside;
          put_in = fits;
          few = few';
          same_t = ap (λ (z : Outcome). length z.table) same ∙ (same_lengths t (front (drop at es)) (drop put o)).0 ∙ r.same_t;
          same_o = ap length out_is' ∙ length_over (written_by done') o₀ (omega (arith, fits, put_is'));
          same_l = length-set l n a.refusal ∙ r.same_l;
        }
