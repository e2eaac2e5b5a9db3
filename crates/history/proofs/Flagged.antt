-- What a history tells of congestion, mark by mark, as tests that compute; and that they say what the statements of request 2026-07 say. Assumes nothing.
use mathlib.Core.Path.{◌≡◌, refl, sym, ap, subst, ◌∙◌}
use mathlib.Core.Bool.{Bool, true, false, cond, not, ◌&&◌, ◌||◌, false≢true}
use mathlib.Core.List.{List, [], ◌∷◌, ◌++◌}
use Prim.Native.Nat.{ℕ}
use borrow.Author.Tests.{not-true}
use Rattle.table6.specs.EventCodes.{CONGESTION}
use Rattle.table6.proofs.Every.{left, right}
use Rattle.history.specs.History.{Mark, event, comes_up, edge, proving_sent, Somewhere, none, Connection, begun}
use Rattle.history.specs.Congestion.{congestion, Congested, release_sent, field_of, LatestRelease}
use Rattle.history.proofs.Tested.{one_more}

-- THE TESTS. Whether the link is congested; whether the present connection came up while it was not; whether every proving unit was sent on such a connection.
pub record View : Type 0 where
  pub flag : Bool
  pub free : Bool
  pub proper : Bool

-- one mark more
abbrev pub seen : Mark → View → View
seen m v =
    let flag = cond (congestion m) (event CONGESTION m) v.flag in
    record { flag = flag; free = cond (edge m) (comes_up m && not flag) v.free; proper = (not (proving_sent m) || v.free) && v.proper }

abbrev pub view : List Mark → View
view [] = record { flag = false; free = false; proper = true }
view (m ∷ h) = seen m (view h)

-- the field of the latest release that was sent, 0 where none was
abbrev pub last_sent : List Mark → ℕ
last_sent [] = 0
last_sent (m ∷ h) = cond (release_sent m) (field_of m) (last_sent h)

-- THE LATEST MARK that passes a test tells what is asked; where none does, it is as it was at first
module _ {A : Type 0} (p : Mark → Bool) (f : Mark → A) (asked : List Mark → A) (next : (m : Mark) (h : List Mark) → asked (m ∷ h) ≡ cond (p m) (f m) (asked h)) where
  passed_over : (m : Mark) (a h : List Mark) → none p (m ∷ a) ≡ true → asked (m ∷ h) ≡ asked h
  passed_over m a h n = next m h ∙ rw (not-true (p m) (left (not (p m)) (none p a) n))

  by_latest : (a : List Mark) (m : Mark) (h : List Mark) → none p a ≡ true → p m ≡ true → asked (a ++ m ∷ h) ≡ f m
  by_latest [] m h n t = next m h ∙ rw t
  by_latest (x ∷ a) m h n t = passed_over x a (a ++ m ∷ h) n ∙ by_latest a m h (right (not (p x)) (none p a) n) t

  by_none : (h : List Mark) → none p h ≡ true → asked h ≡ asked []
  by_none [] n = refl
  by_none (x ∷ h) n = passed_over x h h n ∙ by_none h (right (not (p x)) (none p h) n)

-- THE FLAG
pub flagged : (h : List Mark) → Congested h → (view h).flag ≡ true
flagged h c =
    let r = c.report in
    ap (λ (x : List Mark). (view x).flag) r.whole
    ∙ by_latest congestion (event CONGESTION) (λ x. (view x).flag) (λ m x. refl) r.later r.mark r.earlier c.latest (rw r.passes)
    ∙ r.passes

pub congested : (h : List Mark) → (view h).flag ≡ true → Congested h
congested [] t = absurd (false≢true t)
congested (m ∷ h) t = by (congested h) (congestion m) refl t where
  by : ((view h).flag ≡ true → Congested h) → (b : Bool) → congestion m ≡ b → cond b (event CONGESTION m) (view h).flag ≡ true → Congested (m ∷ h)
  by k true e t = record { report = record { later = []; mark = m; earlier = h; whole = refl; passes = t }; latest = refl }
  by k false e t = let c = k t in record { report = one_more (event CONGESTION) m c.report; latest = rw e c.latest }

-- THE LAST FIELD
pub latest_field : (h : List Mark) (r : LatestRelease h) → last_sent h ≡ field_of r.request.mark
latest_field h r =
    let s = r.request in
    ap last_sent s.whole ∙ by_latest release_sent field_of last_sent (λ m x. refl) s.later s.mark s.earlier r.latest s.passes

pub no_field : (h : List Mark) → none release_sent h ≡ true → last_sent h ≡ 0
no_field = by_none release_sent field_of last_sent (λ m x. refl)

-- THE PRESENT CONNECTION, and every proving unit
came_up_clear : (h : List Mark) → (view h).free ≡ true → (c : Connection h) × ((view (begun c)).flag ≡ false)
came_up_clear [] t = absurd (false≢true t)
came_up_clear (m ∷ h) t = by (came_up_clear h) (edge m) refl t where
  by : ((view h).free ≡ true → (c : Connection h) × ((view (begun c)).flag ≡ false)) → (b : Bool) → edge m ≡ b →
      cond b (comes_up m && not (view (m ∷ h)).flag) (view h).free ≡ true → (c : Connection (m ∷ h)) × ((view (begun c)).flag ≡ false)
  by k true e t =
      (record { up = record { later = []; mark = m; earlier = h; whole = refl; passes = left (comes_up m) _ t }; present = refl }, not-true (view (m ∷ h)).flag (right (comes_up m) _ t))
  by k false e t = let c = k t in (record { up = one_more comes_up m c.0.up; present = rw e c.0.present }, c.1)

sent_clear : (a : List Mark) (m : Mark) (h : List Mark) → (view (a ++ m ∷ h)).proper ≡ true → proving_sent m ≡ true → (view h).free ≡ true
sent_clear [] m h t u = rw u at (left (not (proving_sent m) || (view h).free) (view h).proper t)
sent_clear (x ∷ a) m h t u = sent_clear a m h (right (not (proving_sent x) || (view (a ++ m ∷ h)).free) (view (a ++ m ∷ h)).proper t) u

pub clear_units : (h : List Mark) → (view h).proper ≡ true → (u : Somewhere proving_sent h) → (c : Connection u.earlier) × (Congested (begun c) → ⊥)
clear_units h t u =
    let (c, clear) = came_up_clear u.earlier (sent_clear u.later u.mark u.earlier (subst (λ (x : List Mark). (view x).proper ≡ true) u.whole t) u.passes) in
    (c, λ x. false≢true (sym clear ∙ flagged (begun c) x))
