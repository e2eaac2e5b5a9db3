-- Laws of octets written over others. Assumes nothing.
use mathlib.Core.Path.{◌≡◌, refl, sym, ap, ◌∙◌}
use mathlib.Core.List.{List, [], ◌∷◌, ◌++◌, append_assoc, append-nil}
use Prim.Native.Nat.{ℕ, suc, ◌+◌, ◌-◌, ◌≤◌, ◌<◌}
use native.Mathlib.Nat.{zero-add, suc-add}
use native.Mathlib.Numerals.{add-one}
use native.Mathlib.Omega.{arith}
use lib.ListN.{length, take, drop, get_or, set, length-set, length-append, length-take, length-drop, drop_of_length-le, take-append-drop}
use lib.Seq.{length-take-le, take_all, take-suc, drop-cons, append_snoc, set_at, set-append_left, take-length, take-append_seam, drop-append_seam, take-append-le}
use lib.Seq.{drop-append-le, take-append-add, drop-append-add, drop_at, drop-drop}
use Rattle.octet.specs.Octets.{over, put_at}

-- a turn of the loop that copies, and its end
pub copied : (s d : List ℕ) (i : ℕ) → i < length s → i < length d → set (take i s ++ drop i d) i (get_or s i 0) ≡ take (i + 1) s ++ drop (i + 1) d
copied s d i hs hd =
    ap (λ (r : List ℕ). set (take i s ++ r) i (get_or s i 0)) (drop-cons d i 0 hd)
    ∙ set_at (take i s) (get_or d i 0) (drop (suc i) d) (get_or s i 0) i (length-take-le i s (omega arith))
    ∙ sym (append_snoc (take i s) (get_or s i 0) (drop (suc i) d))
    ∙ rw (add-one, ← take-suc s i 0 hs)

pub all_copied : (s d : List ℕ) (i : ℕ) → i ≡ length s → take i s ++ drop i d ≡ over s d
unfolding over
all_copied s d i e = rw (e, take-length)

pub length_over : (s d : List ℕ) → length s ≤ length d → length (over s d) ≡ length d
unfolding over
length_over s d h = simp (length-append, length-drop) (omega arith)

-- a part from a to the end that was lent comes back
back : (d y : List ℕ) (a : ℕ) → take a d ++ (y ++ drop (length d - a) (drop a d)) ≡ take a d ++ y
back d y a =
    ap (λ (r : List ℕ). take a d ++ r) (ap (λ (r : List ℕ). y ++ r) (drop_of_length-le (drop a d) {i = length d - a} (simp length-drop (omega arith))) ∙ append-nil y)

-- the same where s was written over its front
pub lent : (d y s : List ℕ) (a : ℕ) → y ≡ over s (take (length d - a) (drop a d)) → take a d ++ (y ++ drop (length d - a) (drop a d)) ≡ put_at d a s
unfolding put_at
lent d y s a e =
    back d y a ∙ ap (λ (r : List ℕ). take a d ++ r) (e ∙ rw (take_all (length d - a) (drop a d) (simp length-drop (omega arith))))

-- what is written behind what was written: both, written at once
pub behind : (a b d : List ℕ) → put_at (over a d) (length a) b ≡ over (a ++ b) d
unfolding over put_at
behind a b d = simp (take-append_seam, drop-append_seam, drop-drop, length-append, append_assoc)

-- the same from place a on
behind_front : (p q y : List ℕ) (n : ℕ) → put_at (p ++ q) (length p + n) y ≡ p ++ put_at q n y
unfolding put_at
behind_front p q y n =
    ap (λ (l : List ℕ). l ++ over y (drop (length p + n) (p ++ q))) (take-append-add p q n)
    ∙ ap (λ (l : List ℕ). (p ++ take n q) ++ over y l) (drop-append-add p q n)
    ∙ append_assoc p (take n q) (over y (drop n q))

pub put_behind : (d x y : List ℕ) (a : ℕ) → a ≤ length d → put_at (put_at d a x) (a + length x) y ≡ put_at d a (x ++ y)
unfolding put_at
put_behind d x y a h =
    ap (λ (k : ℕ). put_at (take a d ++ over x (drop a d)) (k + length x) y) (sym (length-take-le a d h))
    ∙ behind_front (take a d) (over x (drop a d)) y (length x)
    ∙ ap (λ (l : List ℕ). take a d ++ l) (behind x y (drop a d))

pub put_nothing : (d : List ℕ) (a : ℕ) → put_at d a [] ≡ d
unfolding over put_at
put_nothing d a = take-append-drop a d

-- an octet stored in what was written from a on: written with it
set_past : (p q : List ℕ) (i v : ℕ) → set (p ++ q) (length p + i) v ≡ p ++ set q i v
set_past [] q i v = ap (λ (k : ℕ). set q k v) (zero-add i)
set_past (x ∷ p) q i v = ap (λ (k : ℕ). set (x ∷ p ++ q) k v) (suc-add (length p) i) ∙ ap (λ (l : List ℕ). x ∷ l) (set_past p q i v)

pub put_set : (d s : List ℕ) (a i v : ℕ) → a ≤ length d → i < length s → set (put_at d a s) (a + i) v ≡ put_at d a (set s i v)
unfolding over put_at
put_set d s a i v h g =
    let r = drop a d in
    ap (λ (k : ℕ). set (take a d ++ (s ++ drop (length s) r)) (k + i) v) (sym (length-take-le a d h))
    ∙ set_past (take a d) (s ++ drop (length s) r) i v
    ∙ ap (λ (l : List ℕ). take a d ++ l) (set-append_left s (drop (length s) r) i v g)
    ∙ ap (λ (k : ℕ). take a d ++ (set s i v ++ drop k r)) (sym (length-set s i v))

-- WHAT IS WHERE AFTERWARDS. What was written stands at its place, and past its end everything is as it was.
pub over_front : (s d : List ℕ) → take (length s) (over s d) ≡ s
unfolding over
over_front s d = take-append_seam s (drop (length s) d)

-- nothing is left of what is no longer
pub over_whole : (s d : List ℕ) → length d ≤ length s → over s d ≡ s
unfolding over
over_whole s d h = ap (λ (r : List ℕ). s ++ r) (drop_of_length-le d h) ∙ append-nil s

pub over_rest : (s d : List ℕ) → drop (length s) (over s d) ≡ drop (length s) d
unfolding over
over_rest s d = drop-append_seam s (drop (length s) d)

pub length_put : (d s : List ℕ) (a : ℕ) → a + length s ≤ length d → length (put_at d a s) ≡ length d
unfolding over put_at
length_put d s a h = simp (length-append, length-drop, length-take) (omega arith)

-- past the place that was written to
past : (d s : List ℕ) (a : ℕ) → a ≤ length d → drop a (put_at d a s) ≡ over s (drop a d)
unfolding put_at
past d s a h = drop_at (take a d) (over s (drop a d)) a (length-take-le a d h)

pub put_there : (d s : List ℕ) (a : ℕ) → a ≤ length d → take (length s) (drop a (put_at d a s)) ≡ s
put_there d s a h = ap (take (length s)) (past d s a h) ∙ over_front s (drop a d)

-- a part before it
front : (y x z : List ℕ) (i n : ℕ) → i + n ≤ length y → take n (drop i (y ++ x)) ≡ take n (drop i (y ++ z))
front y x z i n h =
    let k : n ≤ length (drop i y) = simp length-drop (omega arith) in
    ap (take n) (drop-append-le i y x (omega arith))
    ∙ take-append-le n (drop i y) x k
    ∙ sym (ap (take n) (drop-append-le i y z (omega arith)) ∙ take-append-le n (drop i y) z k)

pub put_before : (d s : List ℕ) (a i n : ℕ) → a ≤ length d → i + n ≤ a → take n (drop i (put_at d a s)) ≡ take n (drop i d)
unfolding put_at
put_before d s a i n h g =
    front (take a d) (over s (drop a d)) (drop a d) i n (omega (arith, length-take-le a d h)) ∙ ap (λ (l : List ℕ). take n (drop i l)) (take-append-drop a d)

over_is : (s c : List ℕ) → over s c ≡ s ++ drop (length s) c
unfolding over
over_is s c = refl

put_is : (c : List ℕ) (j : ℕ) (s : List ℕ) → put_at c j s ≡ take j c ++ (s ++ drop (length s) (drop j c))
unfolding over put_at
put_is c j s = refl

-- what is written in front of what was written: both, written at once
pub put_front : (d x y : List ℕ) (a : ℕ) → a + length x ≤ length d → put_at (put_at d (a + length x) y) a x ≡ put_at d a (x ++ y)
put_front d x y a h =
    let k = a + length x in
    let p = put_at d k y in
    let e : k + length y ≡ a + length (x ++ y) = omega (arith, length-append x y) in
    let rest : drop (length x) (drop a p) ≡ y ++ drop (length (x ++ y)) (drop a d) =
    drop-drop (length x) a p ∙ past d y k h ∙ over_is y (drop k d)
    ∙ ap (λ (l : List ℕ). y ++ l) (drop-drop (length y) k d ∙ ap (λ (n : ℕ). drop n d) e ∙ sym (drop-drop (length (x ++ y)) a d)) in
    put_is p a x
    ∙ (λ i. put_before d y k 0 a h (omega arith) i ++ (x ++ rest i))
    ∙ ap (λ (l : List ℕ). take a d ++ l) (sym (append_assoc x y (drop (length (x ++ y)) (drop a d))))
    ∙ sym (put_is d a (x ++ y))

-- and behind it
pub put_after : (d s : List ℕ) (a i : ℕ) → a ≤ length d → a + length s ≤ i → drop i (put_at d a s) ≡ drop i d
put_after d s a i h g =
    let j = i - (a + length s) in
    let e : i ≡ a + (length s + j) = omega arith in
    ap (λ (k : ℕ). drop k (put_at d a s)) e
    ∙ sym (drop-drop (length s + j) a (put_at d a s))
    ∙ ap (drop (length s + j)) (past d s a h)
    ∙ sym (drop-drop j (length s) (over s (drop a d)))
    ∙ ap (drop j) (over_rest s (drop a d))
    ∙ drop-drop j (length s) (drop a d)
    ∙ drop-drop (length s + j) a d
    ∙ ap (λ (k : ℕ). drop k d) (sym e)

-- What is written twice at a place, the second time no less: as if it were once.
over_over : (x y d : List ℕ) → length x ≤ length y → over y (over x d) ≡ over y d
unfolding over
over_over x y d h =
    let n = length y - length x in
    let e : length y ≡ length x + n = omega arith in
    ap (λ (l : List ℕ). y ++ l)
    (ap (λ (k : ℕ). drop k (x ++ drop (length x) d)) e ∙ drop-append-add x (drop (length x) d) n ∙ drop-drop n (length x) d ∙ ap (λ (k : ℕ). drop k d) (sym e))

put_again : (d x y : List ℕ) (a : ℕ) → a ≤ length d → length x ≤ length y → put_at (put_at d a x) a y ≡ put_at d a y
unfolding put_at
put_again d x y a h g =
    (λ i. put_before d x a 0 a h (omega arith) i ++ over y (past d x a h i)) ∙ ap (λ (l : List ℕ). take a d ++ l) (over_over x y (drop a d) g)

-- and over the end of what was written: its front, and this behind it
pub put_over : (d x y : List ℕ) (a i : ℕ) → a + length x ≤ length d → i ≤ length x → length x ≤ i + length y → put_at (put_at d a x) (a + i) y ≡ put_at d a (take i x ++ y)
put_over d x y a i h g k =
    let f = take i x in
    let e : length f ≡ i = length-take-le i x g in
    let r = drop i x in
    let s : put_at d a x ≡ put_at (put_at d a f) (a + i) r =
    ap (put_at d a) (sym (take-append-drop i x)) ∙ sym (put_behind d f r a (omega arith)) ∙ ap (λ (n : ℕ). put_at (put_at d a f) (a + n) r) e in
    let b : a + i ≤ length (put_at d a f) = rw (length_put d f a (omega (arith, e))) (omega arith) in
    ap (λ (l : List ℕ). put_at l (a + i) y) s
    ∙ put_again (put_at d a f) r y (a + i) b (omega (arith, length-drop i x))
    ∙ ap (λ (n : ℕ). put_at (put_at d a f) (a + n) y) (sym e)
    ∙ put_behind d f y a (omega arith)
