-- The number that a history tells, as a test, is that of the latest DATA since the latest connection came up. Assumes nothing.
use mathlib.Core.Path.{◌≡◌, refl, sym, ap, subst, ◌∙◌}
use mathlib.Core.Logic.{◌↔◌}
use mathlib.Core.Bool.{Bool, true, false, cond, not, ◌&&◌, false≢true, true≢false}
use mathlib.Core.List.{List, [], ◌∷◌, ◌++◌, append_assoc}
use Rattle.link.specs.declared.Num.{Num}
use Rattle.link.specs.declared.Bsnt.{Bsnt}
use Rattle.link.specs.Effect.{taken, not_retrievable}
use Rattle.table6.proofs.Every.{left, right}
use borrow.Author.Tests.{not-true}
use Rattle.history.specs.History.{Mark, none}
use Rattle.history.specs.Bsnt.{data_accepted, number_of, new_connection, LatestUp, Latest}
use Rattle.history.specs.Tests.{bsnt, LatestTested}
use Rattle.history.proofs.Tested.{not_none, one_more, both}

-- marks that are no data and bring nothing up change nothing
passed_over : (a h : List Mark) → none new_connection a ≡ true → none data_accepted a ≡ true → bsnt (a ++ h) ≡ bsnt h
unfolding bsnt
passed_over [] h u d = refl
passed_over (m ∷ a) h u d =
    rw (not-true (new_connection m) (left (not (new_connection m)) (none new_connection a) u), not-true (data_accepted m) (left (not (data_accepted m)) (none data_accepted a) d))
    (passed_over a h (right (not (new_connection m)) (none new_connection a) u) (right (not (data_accepted m)) (none data_accepted a) d))

-- what none of two stretches passes, neither passes
none_first : (p : Mark → Bool) (a b : List Mark) → none p (a ++ b) ≡ true → none p a ≡ true
none_first p [] b h = refl
none_first p (m ∷ a) b h = both (not (p m)) (none p a) (left (not (p m)) (none p (a ++ b)) h) (none_first p a b (right (not (p m)) (none p (a ++ b)) h))

none_second : (p : Mark → Bool) (a b : List Mark) → none p (a ++ b) ≡ true → none p b ≡ true
none_second p [] b h = h
none_second p (m ∷ a) b h = none_second p a b (right (not (p m)) (none p (a ++ b)) h)

told : (h : List Mark) (n : Num) → Latest h n → bsnt h ≡ taken n
unfolding bsnt
told h n l =
    let u = l.connection.up in
    let d = l.indication in
    let rest = d.earlier ++ u.mark ∷ u.earlier in
    let whole : h ≡ d.later ++ d.mark ∷ rest = u.whole ∙ ap (λ (x : List Mark). x ++ u.mark ∷ u.earlier) d.whole ∙ append_assoc d.later (d.mark ∷ d.earlier) (u.mark ∷ u.earlier) in
    let since : none new_connection (d.later ++ d.mark ∷ d.earlier) ≡ true = subst (λ (x : List Mark). none new_connection x ≡ true) d.whole l.connection.latest in
    let down : new_connection d.mark ≡ false = not-true (new_connection d.mark) (left (not (new_connection d.mark)) (none new_connection d.earlier) (none_second new_connection d.later (d.mark ∷ d.earlier) since)) in
    ap bsnt whole
    ∙ passed_over d.later (d.mark ∷ rest) (none_first new_connection d.later (d.mark ∷ d.earlier) since) l.latest
    ∙ rw (down, d.passes, not_none new_connection u.mark u.earlier u.passes d.earlier) (ap taken l.number)

-- one mark more, which brings nothing up
abbrev later_up : (m : Mark) {h : List Mark} → new_connection m ≡ false → LatestUp h → LatestUp (m ∷ h)
later_up m e c = record { up = one_more new_connection m c.up; latest = rw e c.latest }

abbrev latest_up : (h : List Mark) → not (none new_connection h) ≡ true → LatestUp h
latest_up [] t = absurd (false≢true t)
latest_up (m ∷ h) t = by (latest_up h) (new_connection m) refl t where
  by : (not (none new_connection h) ≡ true → LatestUp h) → (b : Bool) → new_connection m ≡ b → not (not b && none new_connection h) ≡ true → LatestUp (m ∷ h)
  by k true e t = record { up = record { later = []; mark = m; earlier = h; whole = refl; passes = e }; latest = refl }
  by k false e t = later_up m e (k t)

nothing : (n : Num) → not_retrievable ≡ taken n → ⊥
nothing n e = false≢true (ap (λ (b : Bsnt). b.known) e)

found : (h : List Mark) (n : Num) → bsnt h ≡ taken n → Latest h n
unfolding bsnt
found [] n t = absurd (nothing n t)
found (m ∷ h) n t = by (found h n) (new_connection m) (data_accepted m) (none new_connection h) refl refl refl t where
  by : (bsnt h ≡ taken n → Latest h n) → (c d u : Bool) → new_connection m ≡ c → data_accepted m ≡ d → none new_connection h ≡ u →
      cond c not_retrievable (cond (d && not u) (taken (number_of m)) (bsnt h)) ≡ taken n → Latest (m ∷ h) n
  by k true d u ec ed eu t = absurd (nothing n t)
  by k false true false ec ed eu t =
      let c = latest_up h (rw eu) in
      record {
        connection = later_up m ec c;
        indication = record { later = []; mark = m; earlier = c.up.later; whole = refl; passes = ed };
        latest = refl;
        number = ap (λ (b : Bsnt). b.num) t;
      }
  by k false true true ec ed eu t =
      let u = (k t).connection.up in
      absurd (false≢true (ap not (sym (subst (λ (x : List Mark). none new_connection x ≡ true) u.whole eu)) ∙ not_none new_connection u.mark u.earlier u.passes u.later))
  by k false false u ec ed eu t =
      let l = k t in
      record { connection = later_up m ec l.connection; indication = one_more data_accepted m l.indication; latest = rw ed l.latest; number = l.number }

pub latest_tested : LatestTested
latest_tested h n = (told h n, found h n)

-- where no number is known there is none
zero : (h : List Mark) → (bsnt h).known ≡ false → bsnt h ≡ not_retrievable
unfolding bsnt
zero [] e = refl
zero (m ∷ h) e = by (zero h) (new_connection m) (data_accepted m && not (none new_connection h)) e where
  by : ((bsnt h).known ≡ false → bsnt h ≡ not_retrievable) → (c d : Bool) → (cond c not_retrievable (cond d (taken (number_of m)) (bsnt h))).known ≡ false →
      cond c not_retrievable (cond d (taken (number_of m)) (bsnt h)) ≡ not_retrievable
  by k true d e = refl
  by k false true e = absurd (true≢false e)
  by k false false e = k e

none_told : (h : List Mark) → ((n : Num) → Latest h n → ⊥) → bsnt h ≡ not_retrievable
none_told h f = by (bsnt h).known refl where
  by : (known : Bool) → (bsnt h).known ≡ known → bsnt h ≡ not_retrievable
  by true e = absurd (f (bsnt h).num (found h (bsnt h).num (λ i. record { known = e i; num = (bsnt h).num })))
  by false e = zero h e

-- what tells one BSNT from another shows which the history tells
module _ {A : Type 0} (f : Bsnt → A) (apart : (b : Bsnt) (n : Num) → f b ≡ f (taken n) → b ≡ taken n) (h : List Mark) (x : A) (is : x ≡ f (bsnt h)) where
  pub shows_number : (n : Num) → (x ≡ f (taken n)) ↔ Latest h n
  shows_number n = (λ e. found h n (apart (bsnt h) n (sym is ∙ e)), λ l. is ∙ ap f (told h n l))

  pub shows_none : (x ≡ f not_retrievable) ↔ ((n : Num) → Latest h n → ⊥)
  shows_none = (λ e n l. nothing n (apart not_retrievable n (sym e ∙ (shows_number n).1 l)), λ k. is ∙ ap f (none_told h k))
