-- The tests say what the statements say: the latest mark that passes a test is one place in the history, and there is no other. Assumes nothing.
use mathlib.Core.Path.{◌≡◌, refl, sym, ap, ◌∙◌}
use mathlib.Core.Bool.{Bool, true, false, cond, not, ◌&&◌, ◌||◌, false≢true, and-eq-true_iff, or-true}
use mathlib.Core.List.{List, [], ◌∷◌, ◌++◌}
use Prim.Native.Nat.{ℕ}
use lib.Dec.{eqb}
use borrow.Author.Tests.{eqb-true, eq-eqb, not-true}
use Rattle.table6.proofs.Every.{left, right}
use Rattle.history.specs.History.{Mark, comes_up, edge, proving_sent, ins_sent, ins_received, in_service, turn, none, count, decided, Somewhere, Stands, Connection, since, begun, Served}
use Rattle.history.specs.Tests.{after, from, begins, ins_after, stands, alive, sent, due, told_ins, heard_ins, served, StandsTested, ServedTested}

pub both : (a b : Bool) → a ≡ true → b ≡ true → a && b ≡ true
both a b p q = (and-eq-true_iff a b).1 (p, q)

module _ (p : Mark → Bool) where
  -- WHERE A HISTORY IS CUT
  two_parts : (h : List Mark) → h ≡ after p h ++ from p h
  two_parts [] = refl
  two_parts (m ∷ h) = by (two_parts h) (p m) where
    by : h ≡ after p h ++ from p h → (b : Bool) → m ∷ h ≡ cond b [] (m ∷ after p h) ++ cond b (m ∷ h) (from p h)
    by k true = refl
    by k false = ap (λ (l : List Mark). m ∷ l) k

  none_after : (h : List Mark) → none p (after p h) ≡ true
  none_after [] = refl
  none_after (m ∷ h) = by (none_after h) (p m) refl where
    by : none p (after p h) ≡ true → (b : Bool) → p m ≡ b → none p (cond b [] (m ∷ after p h)) ≡ true
    by k true e = refl
    by k false e = rw e k

  module _ (m : Mark) (l : List Mark) (t : p m ≡ true) where
    from_there : (a : List Mark) → none p a ≡ true → from p (a ++ m ∷ l) ≡ m ∷ l
    from_there [] u = rw t
    from_there (x ∷ a) u = rw (not-true (p x) (left (not (p x)) (none p a) u)) (from_there a (right (not (p x)) (none p a) u))

    after_there : (a : List Mark) → none p a ≡ true → after p (a ++ m ∷ l) ≡ a
    after_there [] u = rw t
    after_there (x ∷ a) u = rw (not-true (p x) (left (not (p x)) (none p a) u)) (ap (λ (l : List Mark). x ∷ l) (after_there a (right (not (p x)) (none p a) u)))

    pub not_none : (a : List Mark) → not (none p (a ++ m ∷ l)) ≡ true
    not_none [] = rw t
    not_none (x ∷ a) = by (not_none a) (p x) where
      by : not (none p (a ++ m ∷ l)) ≡ true → (b : Bool) → not (not b && none p (a ++ m ∷ l)) ≡ true
      by k true = refl
      by k false = k

  abbrev pub one_more : (x : Mark) {l : List Mark} → Somewhere p l → Somewhere p (x ∷ l)
  one_more x s = record { later = x ∷ s.later; mark = s.mark; earlier = s.earlier; whole = ap (λ (l : List Mark). x ∷ l) s.whole; passes = s.passes }

  somewhere : (l : List Mark) → not (none p l) ≡ true → Somewhere p l
  somewhere [] t = absurd (false≢true t)
  somewhere (x ∷ l) t = by (somewhere l) (p x) refl t where
    by : (not (none p l) ≡ true → Somewhere p l) → (b : Bool) → p x ≡ b → not (not b && none p l) ≡ true → Somewhere p (x ∷ l)
    by k true e t = record { later = []; mark = x; earlier = l; whole = refl; passes = e }
    by k false e t = one_more x (k t)

-- STANDING IN SERVICE
stands→ : (h : List Mark) → stands h ≡ true → Stands h
unfolding stands
stands→ h t = by (from turn h) refl t where
  by : (l : List Mark) → from turn h ≡ l → begins in_service l ≡ true → Stands h
  by [] e t = absurd (false≢true t)
  by (m ∷ l) e t =
      record {
        indication = record { later = after turn h; mark = m; earlier = l; whole = two_parts turn h ∙ ap (λ (x : List Mark). after turn h ++ x) e; passes = t };
        latest = none_after turn h;
      }

stands← : (h : List Mark) → Stands h → stands h ≡ true
unfolding stands
stands← h s =
    let i = s.indication in
    let t : turn i.mark ≡ true = rw i.passes in
    ap (λ (x : List Mark). begins in_service (from turn x)) i.whole ∙ ap (begins in_service) (from_there turn i.mark i.earlier t i.later s.latest) ∙ i.passes

pub stands_tested : StandsTested
stands_tested h = (stands← h, stands→ h)

-- THE OTHER SIDE

-- the present connection is cut off where the tests cut
module _ {h : List Mark} (c : Connection h) where
  edged : edge c.up.mark ≡ true
  edged = rw c.up.passes

  on_it : after edge h ≡ since c
  on_it = ap (after edge) c.up.whole ∙ after_there edge c.up.mark c.up.earlier edged (since c) c.present

  pub begun_there : from edge h ≡ begun c
  begun_there = ap (from edge) c.up.whole ∙ from_there edge c.up.mark c.up.earlier edged (since c) c.present

  pub alive_there : alive h ≡ true
  unfolding alive
  alive_there = ap (begins comes_up) begun_there ∙ c.up.passes

  pub sent_there : sent h ≡ count proving_sent (since c)
  unfolding sent
  sent_there = ap (count proving_sent) on_it

  pub due_there : (n1 : ℕ) → due n1 h ≡ decided n1 (begun c)
  unfolding due
  due_there n1 = ap (decided n1) begun_there

abbrev there : (h : List Mark) (m : Mark) (l : List Mark) → from edge h ≡ m ∷ l → comes_up m ≡ true → Connection h
there h m l e t =
    record {
      up = record { later = after edge h; mark = m; earlier = l; whole = two_parts edge h ∙ ap (λ (x : List Mark). after edge h ++ x) e; passes = t };
      present = none_after edge h;
    }

pub connection : (h : List Mark) → alive h ≡ true → Connection h
unfolding alive
connection h t = by (from edge h) refl t where
  by : (l : List Mark) → from edge h ≡ l → begins comes_up l ≡ true → Connection h
  by [] e t = absurd (false≢true t)
  by (m ∷ l) e t = there h m l e t

abbrev InsAfter : ℕ → List Mark → Type 0
InsAfter n l = (i : Somewhere ins_sent l) × (count proving_sent i.earlier ≡ n)

ins_after_lem : (n : ℕ) (l : List Mark) → ins_after n l ≡ true → InsAfter n l
ins_after_lem n [] t = absurd (false≢true t)
ins_after_lem n (x ∷ l) t = by (ins_after_lem n l) (ins_sent x && eqb (count proving_sent l) n) refl t where
  by : (ins_after n l ≡ true → InsAfter n l) → (b : Bool) → ins_sent x && eqb (count proving_sent l) n ≡ b → b || ins_after n l ≡ true → InsAfter n (x ∷ l)
  by k true e t =
      (record { later = []; mark = x; earlier = l; whole = refl; passes = left (ins_sent x) (eqb (count proving_sent l) n) e }, eqb-true (count proving_sent l) n (right (ins_sent x) (eqb (count proving_sent l) n) e))
  by k false e t = let i = k t in (one_more ins_sent x i.0, i.1)

after_ins : (n : ℕ) (m : Mark) (l : List Mark) → ins_sent m ≡ true → count proving_sent l ≡ n → (a : List Mark) → ins_after n (a ++ m ∷ l) ≡ true
after_ins n m l t q [] = rw (t, eq-eqb (count proving_sent l) n q)
after_ins n m l t q (x ∷ a) = rw (after_ins n m l t q a) (or-true (ins_sent x && eqb (count proving_sent (a ++ m ∷ l)) n))

served→ : (n1 : ℕ) (h : List Mark) → served n1 h ≡ true → Served n1 h
unfolding alive sent due told_ins heard_ins
served→ n1 h t = by (from edge h) refl t where
  by : (x : List Mark) → from edge h ≡ x →
      begins comes_up x && (eqb (count proving_sent (after edge h)) (decided n1 x) && (ins_after (decided n1 x) (after edge h) && not (none ins_received (after edge h)))) ≡ true → Served n1 h
  by [] e t = absurd (false≢true t)
  by (m ∷ l) e t =
      let on : List Mark = after edge h in
      let n : ℕ = decided n1 (m ∷ l) in
      let t₁ : eqb (count proving_sent on) n && (ins_after n on && not (none ins_received on)) ≡ true = right (comes_up m) _ t in
      let t₂ : ins_after n on && not (none ins_received on) ≡ true = right (eqb (count proving_sent on) n) _ t₁ in
      let i : InsAfter n on = ins_after_lem n on (left (ins_after n on) _ t₂) in
      record {
        connection = there h m l e (left (comes_up m) _ t);
        proved = eqb-true (count proving_sent on) n (left (eqb (count proving_sent on) n) _ t₁);
        ins = i.0;
        after_them = i.1;
        peer = somewhere ins_received on (right (ins_after n on) _ t₂);
      }

served← : (n1 : ℕ) (h : List Mark) → Served n1 h → served n1 h ≡ true
unfolding told_ins heard_ins
served← n1 h s =
    let c = s.connection in
    let n : ℕ = decided n1 (begun c) in
    let i = s.ins in
    let g = s.peer in
    both (alive h) _ (alive_there c)
    (both (eqb (sent h) (due n1 h)) _ (eq-eqb (sent h) (due n1 h) (sent_there c ∙ s.proved ∙ sym (due_there c n1)))
    (both (told_ins n1 h) (heard_ins h)
    (rw (begun_there c, on_it c, i.whole) (after_ins n i.mark i.earlier i.passes s.after_them i.later))
    (rw (on_it c, g.whole) (not_none ins_received g.mark g.earlier g.passes g.later))))

pub served_tested : ServedTested
served_tested n1 h = (served← n1 h, served→ n1 h)
