-- Asked again and again at one time: each that is due is named once, in order, and it ends. Assumes nothing.
use Prim.Native.Nat.{ℕ, zero, suc, ◌+◌, ◌*◌, ◌/◌, ◌<◌, ◌≤◌}
use native.Mathlib.Omega.{arith}
use mathlib.Core.Path.{◌≡◌, refl, sym, ap, subst, ◌∙◌}
use mathlib.Core.Bool.{Bool, true, false, cond, ◌&&◌}
use mathlib.Core.Logic.{inl, inr, ⊎_elim}
use mathlib.Core.List.{List, [], ◌∷◌}
use lib.Dec.{eqb, ltb}
use lib.ListN.{length, get_or, set}
use lib.Seq.{get_or-set_same, get_or-set_other}
use borrow.Author.Tests.{eqb-true, eq-eqb, ltb-true, ltb-false, lt-ltb, le-ltb}
use Rattle.unit.specs.Checks.{passed, first}
use Rattle.unit.proofs.Checks.{clear, none}
use Rattle.table6.specs.Cell.{Timer}
use Rattle.keeper.specs.declared.DueAnswer.{DueAnswer}
use Rattle.keeper.specs.Deadlines.{idle, rank, place_of, deadline, last_time, with_deadline, with_time, expiry}
use Rattle.keeper.specs.Due.{Due, EarliestDue, Named, nothing, one, Rightly, left, expired, link_of}
use Rattle.keeper.specs.Calls.{bad_lists, due_checks, answered, Names, DueCall}
use Rattle.keeper.specs.Laws.{Changed}
use Rattle.keeper.specs.Searched.{bound_of, FirstBelow, NoneBelow}
use Rattle.keeper.specs.Rounds.{Of, Round, Sooner, All, InOrder, times, EachOnce, RoundEnds}
use Rattle.keeper.proofs.Places.{timer_at, place_back, same_rank, same_expiry, expiry_some}
use Rattle.keeper.proofs.Calls.{due_past, due_named, names_of}
use Rattle.keeper.proofs.Search.{search_all, below_bound}
use Rattle.keeper.proofs.Due.{Same, same_or_not, behind, found_due, names_none}
use Rattle.keeper.proofs.Laws.{changed, told_past, nothing_due_exactly}

-- LISTS OF NAMES
abbrev of : ℕ → Timer → Of
of k t = record { link = k; timer = t }

all_map : {P Q : Of → Type 0} (l : List Of) → ((x : Of) → P x → Q x) → All P l → All Q l
all_map [] f a = tt
all_map (x ∷ l) f a = (f x a.0, all_map l f a.1)

all_both : {P Q R : Of → Type 0} (l : List Of) → ((x : Of) → P x → Q x → R x) → All P l → All Q l → All R l
all_both [] f a b = tt
all_both (x ∷ l) f a b = (f x a.0 b.0, all_both l f a.1 b.1)

-- the same deadlines, the same order
sooner_same : (d e : List ℕ) (x y : Of) → deadline e x.link x.timer ≡ deadline d x.link x.timer → deadline e y.link y.timer ≡ deadline d y.link y.timer → Sooner e x y → Sooner d x y
sooner_same d e x y p q (inl h) = inl (omega arith)
sooner_same d e x y p q (inr h) = inr (omega (arith, h.0), h.1)

abbrev SameAt : List ℕ → List ℕ → Of → Type 0
SameAt d e x = deadline e x.link x.timer ≡ deadline d x.link x.timer

order_same : (d e : List ℕ) (l : List Of) → All (SameAt d e) l → InOrder e l → InOrder d l
order_same d e [] a o = tt
order_same d e (x ∷ l) a o = (all_both l (λ y p q. sooner_same d e x y a.0 p q) a.1 o.0, order_same d e l a.1 o.1)

-- ONE IS NAMED: what is due afterwards was due before, at the same deadline, and is another
abbrev DueOne : List ℕ → ℕ → ℕ → Of → Type 0
DueOne d n time x = (x.link < n) × Due d time x.link x.timer

module _ (d after : List ℕ) (n time k : ℕ) (t : Timer) (c : Changed d after n k t idle time) where
  stopped_not_due : (j : ℕ) (s : Timer) → Same j s k t → Due after time j s → ⊥
  stopped_not_due j s e u =
      let g : deadline after j s ≡ deadline after k t = λ i. deadline after (e.0 i) (e.1 i) in
      omega (arith, u.0, g, c.itself)

  other : (j : ℕ) (s : Timer) → Due after time j s → j ≡ k → s ≡ t → ⊥
  other j s u a b = stopped_not_due j s (a, b) u

  same_deadline : (j : ℕ) (s : Timer) → j < n → Due after time j s → deadline after j s ≡ deadline d j s
  same_deadline j s h u = c.others j s h (other j s u)

  was : (x : Of) → DueOne after n time x → DueOne d n time x
  was x u =
      let e = same_deadline x.link x.timer u.0 u.1 in
      (u.0, (omega (arith, e, u.1.0), omega (arith, e, u.1.1)))

  still : (j : ℕ) (s : Timer) → j < n → Due d time j s → (j ≡ k → s ≡ t → ⊥) → Due after time j s
  still j s h u z = let e = c.others j s h z in (omega (arith, e, u.0), omega (arith, e, u.1))

  first_of : EarliestDue d n time k t → (x : Of) → DueOne after n time x → Sooner d (of k t) x
  first_of f x u = by (ltb (deadline d k t) (deadline d x.link x.timer)) refl where
    by : (b : Bool) → ltb (deadline d k t) (deadline d x.link x.timer) ≡ b → Sooner d (of k t) x
    by true p = inl (ltb-true (deadline d k t) (deadline d x.link x.timer) p)
    by false p =
        let w = was x u in
        let e : deadline d k t ≡ deadline d x.link x.timer = omega (arith, ltb-false (deadline d k t) (deadline d x.link x.timer) p, f.none_earlier x.link x.timer w.0 w.1) in
        inr (e, behind x.link k x.timer t (f.none_before x.link x.timer w.0 (sym e)) (other x.link x.timer u.1))

-- HOW OFTEN
times_none : (e : List ℕ) (n time j : ℕ) (s : Timer) (l : List Of) → All (DueOne e n time) l → (Due e time j s → ⊥) → times j s l ≡ 0
times_none e n time j s [] a z = refl
times_none e n time j s (x ∷ l) a z = by (eqb j x.link) (eqb (rank s) (rank x.timer)) refl refl (times_none e n time j s l a.1 z) where
  by : (b c : Bool) → eqb j x.link ≡ b → eqb (rank s) (rank x.timer) ≡ c → times j s l ≡ 0 → cond (b && c) (suc (times j s l)) (times j s l) ≡ 0
  by true true p q i =
      let g = eqb-true j x.link p in
      let h = same_rank s x.timer (eqb-true (rank s) (rank x.timer) q) in
      absurd (z (subst (λ (i : ℕ). Due e time i s) (sym g) (subst (Due e time x.link) (sym h) a.0.1)))
  by true false p q i = i
  by false c p q i = i

times_here : (j : ℕ) (s : Timer) (x : Of) (l : List Of) → Same j s x.link x.timer → times j s (x ∷ l) ≡ suc (times j s l)
times_here j s x l e = rw (eq-eqb j x.link e.0, eq-eqb (rank s) (rank x.timer) (ap rank e.1))

times_there : (j : ℕ) (s : Timer) (x : Of) (l : List Of) → (j ≡ x.link → s ≡ x.timer → ⊥) → times j s (x ∷ l) ≡ times j s l
times_there j s x l z = by (eqb j x.link) (eqb (rank s) (rank x.timer)) refl refl where
  by : (b c : Bool) → eqb j x.link ≡ b → eqb (rank s) (rank x.timer) ≡ c → cond (b && c) (suc (times j s l)) (times j s l) ≡ times j s l
  by true true p q = absurd (z (eqb-true j x.link p) (same_rank s x.timer (eqb-true (rank s) (rank x.timer) q)))
  by true false p q = refl
  by false c p q = refl

-- WHAT AN ANSWER TELLS
named_is : (d p after : List ℕ) (time k : ℕ) (t : Timer) → DueCall d p time (answered 0 (expiry t) k) after →
    EarliestDue d (length p) time k t × Changed d after (length p) k t idle time
named_is d p after time k t u =
    let a = answered 0 (expiry t) k in
    let v = told_past d p time a after u refl in
    let w = names_of d p time a after v u in
    by (due_past d p time v).lists.full w.named w.rightly w.answer w.list where
      by : length d ≡ 3 * length p + 1 → (x : Named) → Rightly d (length p) time x → answered 0 (expiry t) k ≡ answered 0 (expired x) (link_of x) → after ≡ left x d (length p) time →
          EarliestDue d (length p) time k t × Changed d after (length p) k t idle time
      by l nothing r e f = absurd (omega (arith, ap (λ (x : DueAnswer). x.expired) e, expiry_some t))
      by l (one j s) r e f =
          let g : j ≡ k = sym (ap (λ (x : DueAnswer). x.link) e) in
          let h : s ≡ t = same_expiry s t (sym (ap (λ (x : DueAnswer). x.expired) e)) in
          let c = subst (λ (y : List ℕ). Changed d y (length p) j s idle time) (sym f) (changed d (length p) j s idle time r.below l) in
          (subst (λ (i : ℕ). EarliestDue d (length p) time i t) g (subst (EarliestDue d (length p) time j) h r), subst (λ (i : ℕ). Changed d after (length p) i t idle time) g (subst (λ (y : Timer). Changed d after (length p) j y idle time) h c))

pub each_once : EachOnce
each_once p time d [] r =
    let z = (nothing_due_exactly d p time (answered 0 0 0) r.0 r.1 refl).0.0 refl in
    record { once = λ j s h u. absurd (z j s h u); only = tt; order = tt }
each_once p time d (x ∷ l) r =
    let after = r.0 in
    let n = length p in
    let k = x.link in
    let t = x.timer in
    let w = named_is d p after time k t r.1.0 in
    let i = each_once p time after l r.1.1 in
    record {
      once = λ j s h u. ⊎_elim
          (λ e. times_here j s x l e ∙ ap suc (times_none after n time j s l i.only (stopped_not_due d after n time k t w.1 j s e)))
          (λ z. times_there j s x l z ∙ i.once j s h (still d after n time k t w.1 j s h u z))
          (same_or_not j k s t);
      only = ((w.0.below, w.0.due), all_map l (was d after n time k t w.1) i.only);
      order = (all_map l (first_of d after n time k t w.1 w.0) i.only, order_same d after l (all_map l (λ y u. same_deadline d after n time k t w.1 y.link y.timer u.0 u.1) i.only) i.order);
    }

-- IT ENDS: how many of the first m numbers run; each that is named makes them one less
abbrev one_if : Bool → ℕ
one_if b = cond b 1 0

abbrev running : List ℕ → ℕ → ℕ
running d zero = 0
running d (suc m) = running d m + one_if (ltb (get_or d m 0) idle)

running_past : (d : List ℕ) (i v m : ℕ) → m ≤ i → running (set d i v) m ≡ running d m
running_past d i v zero h = refl
running_past d i v (suc m) h =
    let e : get_or (set d i v) m 0 ≡ get_or d m 0 = get_or-set_other d i m v 0 (λ (q : m ≡ i). omega arith) in
    let r = running_past d i v m (omega arith) in
    λ j. r j + one_if (ltb (e j) idle)

running_less : (d : List ℕ) (i m : ℕ) → i < m → i < length d → get_or d i 0 < idle → running (set d i idle) m + 1 ≡ running d m
running_less d i zero h l g = absurd (omega arith)
running_less d i (suc m) h l g = by (ltb i m) refl (λ k. running_less d i m k l g) where
  there : ltb i m ≡ false → get_or d m 0 < idle
  there t = let e : i ≡ m = omega (arith, ltb-false i m t) in subst (λ (k : ℕ). get_or d k 0 < idle) e g

  gone : ltb i m ≡ false → get_or (set d i idle) m 0 ≡ idle
  gone t = let e : i ≡ m = omega (arith, ltb-false i m t) in subst (λ (k : ℕ). get_or (set d i idle) k 0 ≡ idle) e (get_or-set_same d i idle 0 l)

  by : (b : Bool) → ltb i m ≡ b → (i < m → running (set d i idle) m + 1 ≡ running d m) → running (set d i idle) (suc m) + 1 ≡ running d (suc m)
  by true t r =
      let k = ltb-true i m t in
      let e : get_or (set d i idle) m 0 ≡ get_or d m 0 = get_or-set_other d i m idle 0 (λ (q : m ≡ i). omega arith) in
      let c : one_if (ltb (get_or (set d i idle) m 0) idle) ≡ one_if (ltb (get_or d m 0) idle) = ap (λ (x : ℕ). one_if (ltb x idle)) e in
      omega (arith, r k, c)
  by false t r =
      let c : one_if (ltb (get_or (set d i idle) m 0) idle) ≡ 0 = ap (λ (x : ℕ). one_if (ltb x idle)) (gone t) in
      let e : one_if (ltb (get_or d m 0) idle) ≡ 1 = ap one_if (lt-ltb (get_or d m 0) idle (there t)) in
      omega (arith, c, e, running_past d i idle m (ltb-false i m t))

-- the next question passes the checks as the first did
passes_again : (d after p : List ℕ) (time : ℕ) → first (due_checks d p time) ≡ passed → length after ≡ length d → last_time after (length p) ≡ time → first (due_checks after p time) ≡ passed
passes_again d after p time h l e =
    let t = clear (due_checks d p time) h in
    none (due_checks after p time) (ap (λ (k : ℕ). bad_lists k (length p)) l ∙ t.0, (t.1.0, (le-ltb time (last_time after (length p)) (omega (arith, e)), tt)))

names_one : (d : List ℕ) (n time k : ℕ) (t : Timer) → EarliestDue d n time k t → Names d n time (answered 0 (expiry t) k) (with_time time (with_deadline idle d k t) n)
names_one d n time k t f = record { named = one k t; rightly = f; answer = refl; list = refl }

-- what one naming leaves
abbrev next : List ℕ → ℕ → ℕ → ℕ → List ℕ
next d n time place = with_time time (with_deadline idle d (place / 3) (timer_at place)) n

finish : (p : List ℕ) (time : ℕ) (d : List ℕ) → first (due_checks d p time) ≡ passed → NoneBelow d (3 * length p) (bound_of time) → (names : List Of) × Round p time d names
finish p time d h f =
    let after = set d (3 * length p) time in
    ([], (after, due_named d p time (answered 0 0 0) after h (names_none d (length p) time f)))

go_on : (p : List ℕ) (time : ℕ) (d : List ℕ) (place : ℕ) → first (due_checks d p time) ≡ passed → FirstBelow d (3 * length p) (bound_of time) place →
    (names : List Of) × Round p time (next d (length p) time place) names → (names : List Of) × Round p time d names
go_on p time d place h f r =
    let k = place / 3 in
    let t = timer_at place in
    let after = next d (length p) time place in
    (of k t ∷ r.0, (after, (due_named d p time (answered 0 (expiry t) k) after h (names_one d (length p) time k t (found_due d (length p) time place f)), r.1)))

passes_next : (p : List ℕ) (time : ℕ) (d : List ℕ) (place : ℕ) → first (due_checks d p time) ≡ passed → FirstBelow d (3 * length p) (bound_of time) place →
    first (due_checks (next d (length p) time place) p time) ≡ passed
passes_next p time d place h f =
    let e = found_due d (length p) time place f in
    let c = changed d (length p) (place / 3) (timer_at place) idle time e.below (due_past d p time h).lists.full in
    passes_again d (next d (length p) time place) p time h c.long c.last

less_next : (p : List ℕ) (time : ℕ) (d : List ℕ) (place : ℕ) → first (due_checks d p time) ≡ passed → FirstBelow d (3 * length p) (bound_of time) place →
    running (next d (length p) time place) (3 * length p) + 1 ≡ running d (3 * length p)
less_next p time d place h f =
    let m = 3 * length p in
    let k = place_of (place / 3) (timer_at place) in
    let b = place_back place in
    let w = below_bound time (get_or d place 0) f.below in
    let g : get_or d k 0 < idle = subst (λ (i : ℕ). get_or d i 0 < idle) (sym b) w.0 in
    ap (λ (x : ℕ). x + 1) (running_past (set d k idle) m time m (omega arith)) ∙ running_less d k m (omega (arith, f.inside)) (omega (arith, f.inside, (due_past d p time h).lists.full)) g

ends : (fuel : ℕ) (p : List ℕ) (time : ℕ) (d : List ℕ) → first (due_checks d p time) ≡ passed → running d (3 * length p) ≤ fuel → (names : List Of) × Round p time d names
ends zero p time d h b =
    ⊎_elim (λ f. finish p time d h f) (λ w. absurd (omega (arith, less_next p time d w.0 h w.1))) (search_all d (bound_of time) (3 * length p))
ends (suc fuel) p time d h b =
    ⊎_elim
    (λ f. finish p time d h f)
    (λ w. go_on p time d w.0 h w.1 (ends fuel p time (next d (length p) time w.0) (passes_next p time d w.0 h w.1) (omega (arith, less_next p time d w.0 h w.1))))
    (search_all d (bound_of time) (3 * length p))

pub round_ends : RoundEnds
round_ends p time d h = ends (running d (3 * length p)) p time d h (omega arith)
