-- Laws of text: digits one before the other, octets one behind the other. Assumes nothing.
use mathlib.Core.Path.{◌≡◌, refl, sym, ap, subst, ◌∙◌}
use mathlib.Core.Bool.{Bool, true, false, cond}
use mathlib.Core.List.{List, [], ◌∷◌, ◌++◌}
use Prim.Native.Nat.{ℕ, zero, suc, ◌+◌, ◌*◌, ◌/◌, ◌%◌, ◌≤◌, ◌<◌}
use native.Mathlib.Numerals.{add-one}
use native.Mathlib.Omega.{arith}
use lib.Dec.{eqb}
use lib.ListN.{length, take, drop, get_or, set, length-append, length-drop, drop_of_length-le}
use lib.Seq.{length-take-le, take-suc}
use Rattle.std.proofs.lemmas.List.{drop-set}
use Rattle.event.specs.Frame.{message_of}
use Rattle.octet.specs.Octets.{put_at}
use Rattle.octet.proofs.Over.{put_nothing, put_behind}
use Rattle.lines.specs.declared.text.Line.{Line}
use Rattle.lines.specs.Text.{before, decimal, digit, hexadecimal, Added, Adds}
use Rattle.lines.specs.Lines.{message_text}

-- DECIMAL

-- the last digit alone, at the end of twenty octets
pub last_digit : (n : ℕ) (l : List ℕ) → length l ≡ 20 → before 19 (n / 10) (drop 19 (set l 19 (48 + n % 10))) ≡ decimal n
unfolding decimal
last_digit n l h =
    ap (before 19 (n / 10)) (drop-set l 19 (48 + n % 10) (omega arith) ∙ ap (λ (t : List ℕ). (48 + n % 10) ∷ t) (drop_of_length-le l {i = 20} (omega arith)))

before_length : (k n : ℕ) (t : List ℕ) → length (before k n t) ≤ k + length t
before_length zero n t = omega arith
before_length (suc k) n t = by (eqb n 0) (before_length k (n / 10) ((48 + n % 10) ∷ t)) where
  by : (b : Bool) → length (before k (n / 10) ((48 + n % 10) ∷ t)) ≤ k + suc (length t) → length (cond b t (before k (n / 10) ((48 + n % 10) ∷ t))) ≤ suc k + length t
  by true h = omega arith
  by false h = omega arith

pub decimal_length : (n : ℕ) → length (decimal n) ≤ 20
unfolding decimal
decimal_length n = before_length 19 (n / 10) ((48 + n % 10) ∷ [])

-- HEXADECIMAL

hexadecimal_append : (x y : List ℕ) → hexadecimal (x ++ y) ≡ hexadecimal x ++ hexadecimal y
unfolding hexadecimal
hexadecimal_append [] y = refl
hexadecimal_append (a ∷ x) y = ap (λ (l : List ℕ). digit (a / 16) ∷ digit (a % 16) ∷ l) (hexadecimal_append x y)

pub hexadecimal_next : (m : List ℕ) (i : ℕ) → i < length m →
    hexadecimal (take (i + 1) m) ≡ hexadecimal (take i m) ++ digit (get_or m i 0 / 16) ∷ digit (get_or m i 0 % 16) ∷ []
unfolding hexadecimal
hexadecimal_next m i h = ap (λ (j : ℕ). hexadecimal (take j m)) (add-one i) ∙ ap hexadecimal (take-suc m i 0 h) ∙ hexadecimal_append (take i m) (get_or m i 0 ∷ [])

pub hexadecimal_length : (m : List ℕ) → length (hexadecimal m) ≡ 2 * length m
unfolding hexadecimal
hexadecimal_length [] = refl
hexadecimal_length (x ∷ m) = omega (arith, hexadecimal_length m)

pub hexadecimal_so_far : (m : List ℕ) (i : ℕ) → i ≤ length m → length (hexadecimal (take i m)) ≡ 2 * i
hexadecimal_so_far m i h = omega (arith, hexadecimal_length (take i m), length-take-le i m h)

pub some_message : (m : List ℕ) → 0 < length m → message_text m ≡ hexadecimal m
some_message [] h = absurd (omega arith)
some_message (x ∷ m) h = refl

-- a record is its head and its message
pub message_fits : (r m : List ℕ) → m ≡ message_of r → 12 ≤ length r → length m + 12 ≡ length r
message_fits r m e h = omega (arith, ap length e, length-drop 12 r)

-- ONE BEHIND THE OTHER

pub added_then : (x y t t₁ t₂ : List ℕ) (a b c : ℕ) → a ≤ length t → Added x t a b t₁ → Added y t₁ b c t₂ → Added (x ++ y) t a c t₂
added_then x y t t₁ t₂ a b c h p q =
    record {
      answer = q.answer ∙ omega (arith, p.answer, length-append x y);
      written =
          q.written
          ∙ ap (λ (l : List ℕ). put_at l b y) p.written
          ∙ ap (λ (k : ℕ). put_at (put_at t a x) k y) p.answer
          ∙ put_behind t x y a h;
    }

pub added_as : {x y t t' : List ℕ} {a r : ℕ} → x ≡ y → Added x t a r t' → Added y t a r t'
added_as {t = t} {t' = t'} {a = a} {r = r} e p = subst (λ (z : List ℕ). Added z t a r t') e p

pub adds_nothing : (l : Line) → l.at ≤ length l.text.now → Adds [] l l
adds_nothing l h =
    record {
      room = omega arith;
      added = record { answer = omega arith; written = sym (put_nothing l.text.now l.at) };
      same_text = refl;
      same_length = refl;
    }

infixl 10 ◌then◌
-- what was added, and what was added behind it: both, added at once
pub ◌then◌ : {x y : List ℕ} {l m n : Line} → Adds x l m → Adds y m n → Adds (x ++ y) l n
◌then◌ {x} {y} {l} {m} {n} p q =
    record {
      room = omega (arith, length-append x y);
      added =
          record {
            answer = omega (arith, length-append x y);
            written =
                q.added.written
                ∙ ap (λ (t : List ℕ). put_at t m.at y) p.added.written
                ∙ ap (λ (k : ℕ). put_at (put_at l.text.now l.at x) k y) p.added.answer
                ∙ put_behind l.text.now x y l.at (omega (arith, p.room));
          };
      same_text = q.same_text ∙ p.same_text;
      same_length = q.same_length ∙ p.same_length;
    }

-- a line from the front of a text, at its end
pub from_front : {x y t t' : List ℕ} {l n : Line} → Adds x l n → x ≡ y → (l.text.now ≡ t) × (l.at ≡ 0) → t' ≡ n.text.now → Added y t 0 n.at t'
from_front {x} {y} {t} {t'} {l} {n} p e f h =
    record {
      answer = p.added.answer ∙ omega (arith, ap length e);
      written = h ∙ p.added.written ∙ (λ i. put_at (f.0 i) (f.1 i) (e i));
    }
