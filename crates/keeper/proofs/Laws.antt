-- The laws of the three calls. Assumes nothing.
use Prim.Native.Nat.{ℕ, ◌+◌, ◌*◌, ◌/◌, ◌<◌, ◌≤◌}
use native.Mathlib.Omega.{arith}
use mathlib.Core.Path.{◌≡◌, refl, sym, ap, subst, ◌∙◌}
use mathlib.Core.Logic.{◌↔◌}
use mathlib.Core.List.{List, [], ◌∷◌}
use lib.ListN.{length, set, replicate, length-set, length-replicate, get_or-replicate, get_or-append}
use lib.Seq.{get_or-set_same, get_or-set_other, get_or_at}
use Rattle.unit.specs.Checks.{Verdict, passed, refused, first, number_of}
use borrow.Author.Tests.{leb-false}
use Rattle.table6.specs.Cell.{Timer, T1, T2, T3}
use Rattle.keeper.specs.declared.DueAnswer.{DueAnswer}
use Rattle.keeper.specs.Deadlines.{Order, Set, Reset, idle, place_of, deadline, last_time, with_deadline, with_time, order_of, period, followed, expiry}
use Rattle.keeper.specs.Due.{Due, NothingDue, Named, nothing, one, Rightly, left, expired, link_of}
use Rattle.keeper.specs.Calls.{past_all, own_period, fresh_checks, due_checks, order_checks, Kept, kept, fresh_deadlines, fresh_call, order_call, answered, Names, Tells, DueCall}
use Rattle.keeper.specs.Laws.{FreshRefused, OrderRefused, DueRefused, NoneRuns, Changed, SetChangesOne, SetRuns, ResetChangesOne, WasDue, NamedWasDue, OnlyTime, NothingDueExactly, OrderTimeKept, DueTimeKept}
use Rattle.keeper.proofs.Places.{place_below, same_place, expiry_some}
use Rattle.unit.proofs.Checks.{clear, none_refuses}
use Rattle.keeper.proofs.Calls.{period_some, fresh_made, order_past, order_passes, order_followed, due_past, due_passes, names_of}
use Rattle.keeper.proofs.Lists.{length_followed, time_left}

-- REFUSALS
untouched : (v : Verdict ℕ) (d after : List ℕ) → 1 ≤ (kept v d after).refusal → (kept v d after).deadlines ≡ d
untouched passed d after h = absurd (omega arith)
untouched (refused r) d after h = refl

number_kept : (v : Verdict ℕ) (d after : List ℕ) → (kept v d after).refusal ≡ number_of v
number_kept passed d after = refl
number_kept (refused r) d after = refl

pub fresh_untouched : FreshRefused
unfolding fresh_call
fresh_untouched d h = untouched (first (fresh_checks d)) d (fresh_deadlines (length d / 3)) h

pub order_untouched : OrderRefused
unfolding order_call
order_untouched d p link c time h = untouched (first (order_checks d p link c time)) d (with_time time (followed (order_of c) d link (own_period p link) time) (length p)) h

told_untouched : (v : Verdict ℕ) (d : List ℕ) (n time : ℕ) (a : DueAnswer) (after : List ℕ) → Tells v d n time a after → 1 ≤ a.refusal → (a ≡ answered a.refusal 0 0) × (after ≡ d)
told_untouched passed d n time a after t h = absurd (omega (arith, ap (λ (x : DueAnswer). x.refusal) t.answer))
told_untouched (refused r) d n time a after t h = (t.0 ∙ ap (λ (k : ℕ). answered k 0 0) (sym (ap (λ (x : DueAnswer). x.refusal) t.0)), t.1)

pub due_untouched : DueRefused
unfolding DueCall
due_untouched d p time a after t h = told_untouched (first (due_checks d p time)) d (length p) time a after t h

-- ONE DEADLINE AND THE LAST TIME
pub changed : (d : List ℕ) (n link : ℕ) (t : Timer) (x time : ℕ) → link < n → length d ≡ 3 * n + 1 → Changed d (with_time time (with_deadline x d link t) n) n link t x time
changed d n link t x time h l =
    let k = place_of link t in
    let b = place_below n link t h in
    let e = length-set d k x in
    record {
      itself = get_or-set_other (set d k x) (3 * n) k time 0 (λ (q : k ≡ 3 * n). omega arith) ∙ get_or-set_same d k x 0 (omega arith);
      others = λ j s g z. get_or-set_other (set d k x) (3 * n) (place_of j s) time 0 (λ (q : place_of j s ≡ 3 * n). omega (arith, place_below n j s g)) ∙ get_or-set_other d k (place_of j s) x 0 (λ (q : place_of j s ≡ k). let w = same_place j link s t q in z w.0 w.1);
      last = get_or-set_same (set d k x) (3 * n) time 0 (omega arith);
      long = length-set (set d k x) (3 * n) time ∙ e;
    }

pub only_time : (d : List ℕ) (n time : ℕ) → length d ≡ 3 * n + 1 → OnlyTime d (with_time time d n) n time
only_time d n time l =
    record {
      others = λ j s g. get_or-set_other d (3 * n) (place_of j s) time 0 (λ (q : place_of j s ≡ 3 * n). omega (arith, place_below n j s g));
      last = get_or-set_same d (3 * n) time 0 (omega arith);
      long = length-set d (3 * n) time;
    }

-- by an order
accepted : (d p : List ℕ) (link c time : ℕ) → (order_call d p link c time).refusal ≡ 0 → first (order_checks d p link c time) ≡ passed
unfolding order_call
accepted d p link c time h =
    order_passes d p link c time (sym (number_kept (first (order_checks d p link c time)) d (with_time time (followed (order_of c) d link (own_period p link) time) (length p))) ∙ h)

after : (d p : List ℕ) (link c time : ℕ) (o : Order) → order_of c ≡ o → (h : first (order_checks d p link c time) ≡ passed) →
    with_time time (followed o d link (own_period p link) time) (length p) ≡ (order_call d p link c time).deadlines
after d p link c time o e h =
    ap (λ (x : Order). with_time time (followed x d link (own_period p link) time) (length p)) (sym e) ∙ ap (λ (x : Kept). x.deadlines) (order_followed d p link c time h)

pub set_changes_one : SetChangesOne
set_changes_one d p link c time t e h =
    let a = accepted d p link c time h in
    let f = order_past d p link c time a in
    let x = time + period (own_period p link) t in
    subst (λ (l : List ℕ). Changed d l (length p) link t x time) (after d p link c time (Set t) e a) (changed d (length p) link t x time f.known f.lists.full)

-- a timer that was set
period_least : (t3 : ℕ) (t : Timer) → 1 ≤ t3 → 1 ≤ period t3 t
period_least t3 T1 h = omega arith
period_least t3 T2 h = omega arith
period_least t3 T3 h = h

pub set_runs : SetRuns
set_runs d p link c time t e h =
    let f = order_past d p link c time (accepted d p link c time h) in
    let t3 = own_period p link in
    let x = (set_changes_one d p link c time t e h).itself in
    let b = leb-false idle (time + period t3 t) (sym (ap (λ (o : Order). past_all o t3 time) e) ∙ f.fits) in
    (omega (arith, x, b), omega (arith, x, period_least t3 t (period_some p link f.periods f.known)))

pub reset_changes_one : ResetChangesOne
reset_changes_one d p link c time t e h =
    let a = accepted d p link c time h in
    let f = order_past d p link c time a in
    subst (λ (l : List ℕ). Changed d l (length p) link t idle time) (after d p link c time (Reset t) e a) (changed d (length p) link t idle time f.known f.lists.full)

-- A FRESH LIST
fresh_numbered : (d : List ℕ) → (fresh_call d).refusal ≡ 0 → first (fresh_checks d) ≡ passed
unfolding fresh_call
fresh_numbered d h =
    none_refuses (fresh_checks d) (omega arith, tt) (sym (number_kept (first (fresh_checks d)) d (fresh_deadlines (length d / 3))) ∙ h)

fresh_is : (d : List ℕ) → (fresh_call d).refusal ≡ 0 → (fresh_call d).deadlines ≡ fresh_deadlines (length d / 3)
fresh_is d h = ap (λ (x : Kept). x.deadlines) (sym (fresh_made d (clear (fresh_checks d) (fresh_numbered d h)).0))

idle_at : (n link : ℕ) (t : Timer) → link < n → deadline (fresh_deadlines n) link t ≡ idle
idle_at n link t h =
    let b = place_below n link t h in
    get_or-append (replicate (3 * n) idle) (0 ∷ []) 0 (place_of link t) (rw (length-replicate (3 * n) idle) b) ∙ get_or-replicate (3 * n) (place_of link t) idle 0 b

zero_last : (n : ℕ) → last_time (fresh_deadlines n) n ≡ 0
zero_last n = get_or_at (replicate (3 * n) idle) 0 [] 0 (3 * n) (length-replicate (3 * n) idle)

pub none_runs : NoneRuns
none_runs d h =
    let e = fresh_is d h in
    let n = length d / 3 in
    (λ link t g. ap (λ (l : List ℕ). deadline l link t) e ∙ idle_at n link t g, ap (λ (l : List ℕ). last_time l n) e ∙ zero_last n)

-- BY A QUESTION: past the checks, and what was then named
pub told_past : (d p : List ℕ) (time : ℕ) (a : DueAnswer) (after : List ℕ) → DueCall d p time a after → a.refusal ≡ 0 → first (due_checks d p time) ≡ passed
unfolding DueCall
told_past d p time a after t h = due_passes d p time (by (first (due_checks d p time)) t) where
  by : (v : Verdict ℕ) → Tells v d (length p) time a after → number_of v ≡ 0
  by passed t = refl
  by (refused r) t = sym (ap (λ (x : DueAnswer). x.refusal) t.0) ∙ h

-- one that is named is accepted
told_some : (d p : List ℕ) (time : ℕ) (a : DueAnswer) (after : List ℕ) → DueCall d p time a after → 1 ≤ a.expired → a.refusal ≡ 0
unfolding DueCall
told_some d p time a after t h = by (first (due_checks d p time)) t where
  by : (v : Verdict ℕ) → Tells v d (length p) time a after → a.refusal ≡ 0
  by passed t = ap (λ (x : DueAnswer). x.refusal) t.answer
  by (refused r) t = absurd (omega (arith, ap (λ (x : DueAnswer). x.expired) t.0))

pub was_due : (d : List ℕ) (n time : ℕ) (a : DueAnswer) (after : List ℕ) → length d ≡ 3 * n + 1 → Names d n time a after → 1 ≤ a.expired → WasDue d after n time a
was_due d n time a after l w h = by w.named w.rightly w.answer w.list where
  by : (x : Named) → Rightly d n time x → a ≡ answered 0 (expired x) (link_of x) → after ≡ left x d n time → WasDue d after n time a
  by nothing r e f = absurd (omega (arith, ap (λ (x : DueAnswer). x.expired) e))
  by (one k t) r e f =
      let g : a.link ≡ k = ap (λ (x : DueAnswer). x.link) e in
      record {
        timer = t;
        code = ap (λ (x : DueAnswer). x.expired) e;
        below = omega (arith, g, r.below);
        due = subst (λ (j : ℕ). Due d time j t) (sym g) r.due;
        changed = subst (λ (j : ℕ). Changed d after n j t idle time) (sym g) (subst (λ (y : List ℕ). Changed d y n k t idle time) (sym f) (changed d n k t idle time r.below l));
      }

pub named_was_due : NamedWasDue
named_was_due d p time a after t h =
    let v = told_past d p time a after t (told_some d p time a after t h) in
    was_due d (length p) time a after (due_past d p time v).lists.full (names_of d p time a after v t) h

pub nothing_due_exactly : NothingDueExactly
nothing_due_exactly d p time a after t h =
    let w = names_of d p time a after (told_past d p time a after t h) t in
    by w.named w.rightly w.answer w.list where
      l : length d ≡ 3 * length p + 1
      l = (due_past d p time (told_past d p time a after t h)).lists.full

      by : (x : Named) → Rightly d (length p) time x → a ≡ answered 0 (expired x) (link_of x) → after ≡ left x d (length p) time →
          ((a.expired ≡ 0) ↔ NothingDue d (length p) time) × (a.expired ≡ 0 → OnlyTime d after (length p) time)
      by nothing r e f =
          ((λ z. r, λ z. ap (λ (x : DueAnswer). x.expired) e), λ z. subst (λ (y : List ℕ). OnlyTime d y (length p) time) (sym f) (only_time d (length p) time l))
      by (one k t) r e f =
          let g : a.expired ≡ expiry t = ap (λ (x : DueAnswer). x.expired) e in
          ((λ z. absurd (omega (arith, z, g, expiry_some t)), λ z. absurd (z k t r.below r.due)), λ z. absurd (omega (arith, z, g, expiry_some t)))

-- THE LAST TIME
last_after : (o : Order) (d : List ℕ) (link t3 time n : ℕ) → length d ≡ 3 * n + 1 → last_time (with_time time (followed o d link t3 time) n) n ≡ time
last_after o d link t3 time n l = get_or-set_same (followed o d link t3 time) (3 * n) time 0 (omega (arith, length_followed o d link t3 time))

pub order_time_kept : OrderTimeKept
unfolding order_call
order_time_kept d p link c time = by (first (order_checks d p link c time)) refl where
  by : (v : Verdict ℕ) → first (order_checks d p link c time) ≡ v →
      last_time d (length p) ≤ last_time (kept v d (with_time time (followed (order_of c) d link (own_period p link) time) (length p))).deadlines (length p)
  by passed e =
      let f = order_past d p link c time e in
      omega (arith, f.later, last_after (order_of c) d link (own_period p link) time (length p) f.lists.full)
  by (refused r) e = omega arith

pub due_time_kept : DueTimeKept
unfolding DueCall
due_time_kept d p time a after t = by (first (due_checks d p time)) refl t where
  by : (v : Verdict ℕ) → first (due_checks d p time) ≡ v → Tells v d (length p) time a after → last_time d (length p) ≤ last_time after (length p)
  by passed e t =
      let f = due_past d p time e in
      omega (arith, f.later, ap (λ (l : List ℕ). last_time l (length p)) t.list ∙ time_left t.named d (length p) time (omega (arith, f.lists.full)))
  by (refused r) e t = omega (arith, ap (λ (l : List ℕ). last_time l (length p)) t.1)
