-- Runs of signals that are known beforehand, and what the words of a step come to around the one that carries something. Assumes nothing.
use mathlib.Core.Path.{◌≡◌, refl, sym, ap, subst, ◌∙◌}
use mathlib.Core.Bool.{Bool, true, false}
use mathlib.Core.Logic.{inl, inr}
use mathlib.Core.List.{List, [], ◌++◌, map, append_assoc, append-nil}
use Prim.Native.Nat.{ℕ, zero, suc, ◌+◌, ◌-◌, ◌*◌, ◌/◌, ◌%◌, ◌≤◌, ◌<◌}
use native.Mathlib.Omega.{arith}
use lib.Dec.{ltb}
use lib.ListN.{length, take, drop, length-append}
use borrow.Author.Tests.{ltb-true, ltb-false}
use Rattle.table6.specs.Stored.{word_at, lowest}
use Rattle.table6.proofs.Lists.{alike, alike_from}
use Rattle.link.specs.declared.Signal.{Signal}
use Rattle.link.specs.Kept.{brings, brought}
use Rattle.link.specs.Stored.{Given, meant_by}
use Rattle.octet.specs.Octets.{at, over, put_at}
use Rattle.event.specs.Frame.{link_at}
use Rattle.signal.specs.declared.Run.{Run}
use Rattle.signal.specs.SignalRecord.{signal_octets, joined, Put}
use Rattle.signal.specs.Writing.{front_of, fixed_at, known, after, AllKnown, Ran, Halts}
use Rattle.octet.proofs.Over.{behind, lent, put_behind}
use Rattle.signal.proofs.SignalRecord.{fixed_known, last_word, fronted, signal_length}

-- ONE MORE at the end of a run

known_next : (front : List ℕ) (i rest : ℕ) → known front (suc i) rest ≡ known front i rest ++ (front ++ fixed_at (after i rest % 256))
known_next front zero rest = append-nil (front ++ fixed_at (rest % 256))
known_next front (suc i) rest =
    let s = front ++ fixed_at (rest % 256) in
    ap (λ (l : List ℕ). s ++ l) (known_next front i (rest / 256)) ∙ sym (append_assoc s (known front i (rest / 256)) (front ++ fixed_at (after i (rest / 256) % 256)))

after_next : (i rest : ℕ) → after (suc i) rest ≡ after i rest / 256
after_next zero rest = refl
after_next (suc i) rest = after_next i (rest / 256)

all_next : (i rest : ℕ) → AllKnown i rest → after i rest % 256 < 36 → AllKnown (suc i) rest
all_next zero rest a h = (h, tt)
all_next (suc i) rest a h = (a.0, all_next i (rest / 256) a.1 h)

fixed_length : (w : ℕ) → w < 36 → length (fixed_at w) ≡ 8
unfolding fixed_at
fixed_length w h = alike (λ w. length (fixed_at w)) (λ w. 8) 36 0 refl w h

pub known_length : (front : List ℕ) (i rest : ℕ) → length front ≡ 4 → AllKnown i rest → length (known front i rest) ≡ 12 * i
known_length front zero rest e a = refl
known_length front (suc i) rest e a =
    let f = fixed_at (rest % 256) in
    let k = known front i (rest / 256) in
    omega (arith, length-append (front ++ f) k, length-append front f, e, fixed_length (rest % 256) a.0, known_length front i (rest / 256) e a.1)

pub none_yet : (front : List ℕ) (run : Run) (d : List ℕ) → d ≡ put_at d run.at [] → Ran front run d run d
none_yet front run d e = record { told = 0; all = omega arith; at = omega arith; rest = refl; words = tt; written = e }

-- a turn of the loop
pub turn : (front : List ℕ) (run r : Run) (d out y : List ℕ) → length front ≡ 4 → run.at ≤ length d → Ran front run d r out → 0 < r.left → r.rest % 256 < 36 →
    y ≡ over (front ++ fixed_at (r.rest % 256)) (take (length out - r.at) (drop r.at out)) →
    Ran front run d (record { at = r.at + 12; rest = r.rest / 256; left = r.left - 1 }) (take r.at out ++ (y ++ drop (length out - r.at) (drop r.at out)))
turn front run r d out y e h t g w f =
    let i = t.told in
    let k = known front i run.rest in
    let s = front ++ fixed_at (r.rest % 256) in
    let p : r.at ≡ run.at + length k = omega (arith, t.at, known_length front i run.rest e t.words) in
    record {
      told = suc i;
      all = omega (arith, t.all);
      at = omega (arith, t.at);
      rest = ap (λ (n : ℕ). n / 256) t.rest ∙ sym (after_next i run.rest);
      words = all_next i run.rest t.words (subst (λ (n : ℕ). n % 256 < 36) t.rest w);
      written =
          lent out y s r.at f
          ∙ (λ j. put_at (t.written j) (p j) s)
          ∙ put_behind d k s run.at h
          ∙ ap (λ (n : ℕ). put_at d run.at (k ++ (front ++ fixed_at (n % 256)))) t.rest
          ∙ ap (put_at d run.at) (sym (known_next front i run.rest));
    }

-- three stretches, one behind the other
pub three : (x y z : List ℕ) {d d₁ d₂ d₃ : List ℕ} {a b r : ℕ} → d₁ ≡ put_at d 0 x → a ≡ length x → d₂ ≡ put_at d₁ a y → b ≡ a + length y → d₃ ≡ put_at d₂ b z → r ≡ b + length z →
    Put (x ++ (y ++ z)) d r d₃
unfolding put_at
three x y z {d} {d₂ = d₂} {b = b} p pa q qb s sr =
    let e : d₂ ≡ over (x ++ y) d = q ∙ (λ i. put_at (p i) (pa i) y) ∙ behind x y d in
    let g : b ≡ length (x ++ y) = omega (arith, pa, qb, length-append x y) in
    record {
      answer = omega (arith, pa, qb, sr, length-append x (y ++ z), length-append y z);
      written =
          s
          ∙ ap (λ (k : ℕ). put_at d₂ k z) g
          ∙ ap (λ (l : List ℕ). put_at l (length (x ++ y)) z) e
          ∙ behind (x ++ y) z d
          ∙ ap (λ (l : List ℕ). over l d) (append_assoc x y z);
    }

-- THE SIGNALS OF SOME WORDS

-- l and i more, by clauses on i: the prover's own sum has none
abbrev plus : ℕ → ℕ → ℕ
plus zero l = l
plus (suc i) l = suc (plus i l)

plus_add : (i l : ℕ) → plus i l ≡ l + i
plus_add zero l = omega arith
plus_add (suc i) l = omega (arith, plus_add i l)

abbrev pub spoken : Given → ℕ → ℕ → List Signal
spoken o n rest = map (meant_by o) (map word_at (lowest n rest))

module _ (o : Given) (e m : List ℕ) (b : at e 3 < 256) where
  of_known : (w : ℕ) → w < 36 → signal_octets (link_at e) m (meant_by o (word_at w)) ≡ front_of e ++ fixed_at w
  of_known w h = fronted e m (meant_by o (word_at w)) b ∙ ap (λ (l : List ℕ). front_of e ++ l) (sym (fixed_known o m w h))

  -- a run, and those behind it
  parts : (i l rest : ℕ) → AllKnown i rest → joined (link_at e) m (spoken o (plus i l) rest) ≡ known (front_of e) i rest ++ joined (link_at e) m (spoken o l (after i rest))
  unfolding joined
  parts zero l rest a = refl
  parts (suc i) l rest a =
      let s = front_of e ++ fixed_at (rest % 256) in
      (λ j. of_known (rest % 256) a.0 j ++ parts i l (rest / 256) a.1 j)
      ∙ sym (append_assoc s (known (front_of e) i (rest / 256)) (joined (link_at e) m (spoken o l (after i (rest / 256)))))

  pub split : (n i l rest : ℕ) → l + i ≡ n → AllKnown i rest → joined (link_at e) m (spoken o n rest) ≡ known (front_of e) i rest ++ joined (link_at e) m (spoken o l (after i rest))
  split n i l rest h a = ap (λ (k : ℕ). joined (link_at e) m (spoken o k rest)) (sym (plus_add i l ∙ h)) ∙ parts i l rest a

  -- each takes twelve octets at least
  pub room : (l rest : ℕ) → 12 * l ≤ length (joined (link_at e) m (spoken o l rest))
  unfolding joined
  room zero rest = omega arith
  room (suc l) rest =
      let s = meant_by o (word_at (rest % 256)) in
      omega (arith, length-append (signal_octets (link_at e) m s) (joined (link_at e) m (spoken o l (rest / 256))), signal_length (link_at e) m s, room l (rest / 256))

-- AT MOST ONE CARRIES SOMETHING

brings_last : (o : Given) (w : ℕ) (b : Bool) → 36 ≤ w → ltb w 46 ≡ b → brings (meant_by o (word_at w)) ≡ true
brings_last o w true h e = alike_from (λ w. brings (meant_by o (word_at w))) (λ w. true) 36 10 true refl w h (ltb-true w 46 e)
brings_last o w false h e = rw (last_word w (ltb-false w 46 e)) refl

first_brings : (o : Given) (l rest : ℕ) → 36 ≤ rest % 256 → brought (spoken o (suc l) rest) ≡ 1 + brought (spoken o l (rest / 256))
first_brings o l rest h = rw (brings_last o (rest % 256) (ltb (rest % 256) 46) h refl) refl

others_bring : (o : Given) (i l rest : ℕ) → brought (spoken o l (after i rest)) ≤ brought (spoken o (plus i l) rest)
others_bring o zero l rest = omega arith
others_bring o (suc i) l rest = omega (arith, others_bring o i l (rest / 256))

-- of those behind a run no more carry something than of all
pub behind_brings : (o : Given) (n i l rest : ℕ) → l + i ≡ n → brought (spoken o l (after i rest)) ≤ brought (spoken o n rest)
behind_brings o n i l rest h = subst (λ (k : ℕ). brought (spoken o l (after i rest)) ≤ brought (spoken o k rest)) (plus_add i l ∙ h) (others_bring o i l rest)

-- behind one that carries something a run ends at the end
pub at_end : (o : Given) (front : List ℕ) (rest : ℕ) (run r : Run) (d out : List ℕ) → 36 ≤ rest % 256 → run.rest ≡ rest / 256 → brought (spoken o (suc run.left) rest) ≤ 1 →
    Ran front run d r out → Halts r → r.left ≡ 0
at_end o front rest run r d out h e one t (inl z) = z
at_end o front rest run r d out h e one t (inr g) = by r.left refl where
  by : (k : ℕ) → r.left ≡ k → r.left ≡ 0
  by zero q = q
  by (suc k) q =
      let x : after t.told (rest / 256) ≡ r.rest = ap (after t.told) (sym e) ∙ sym t.rest in
      let y : suc k + t.told ≡ run.left = omega (arith, q, t.all) in
      absurd
      (omega
      (arith, one, first_brings o run.left rest h, behind_brings o run.left t.told (suc k) (rest / 256) y, first_brings o k (after t.told (rest / 256)) (rw x g)))
