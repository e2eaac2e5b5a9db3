-- Text in ASCII: words, numbers in decimal, octets in hexadecimal, and lines of words.
use Rattle.std.specs.Prelude.{ℕ, zero, suc, ◌+◌, ◌/◌, ◌%◌, ◌≤◌, ◌≡◌, cond, List, [], ◌∷◌, ◌++◌, eqb, ltb, length}
use Prim.Native.Char.{Char, code}
use Rattle.octet.specs.Octets.{put_at}
use Rattle.lines.specs.declared.text.Line.{Line}

abbrev pub ascii : List Char → List ℕ
ascii [] = []
ascii (c ∷ others) = code c ∷ ascii others

-- a text with the digits of n before it, k of them at most, none for 0
abbrev pub before : ℕ → ℕ → List ℕ → List ℕ
before zero n text = text
before (suc k) n text = cond (eqb n 0) text (before k (n / 10) ((48 + n % 10) ∷ text))

-- A number below 10 ^ 20: its last digit, and those before it.
unfoldable pub decimal : ℕ → List ℕ
decimal n = before 19 (n / 10) ((48 + n % 10) ∷ [])

-- a digit below 16: 0 to 9, then a to f
abbrev pub digit : ℕ → ℕ
digit d = cond (ltb d 10) (48 + d) (87 + d)

unfoldable pub hexadecimal : List ℕ → List ℕ
hexadecimal [] = []
hexadecimal (x ∷ others) = digit (x / 16) ∷ digit (x % 16) ∷ hexadecimal others

-- Words with a space between two, and a newline behind the last.
abbrev pub line : List ℕ → List (List ℕ) → List ℕ
line word [] = word ++ code "\n" ∷ []
line word (next ∷ others) = word ++ code " " ∷ line next others

-- Octets added to a text from place a on; the answer is the place behind them.
pub record Added (octets text : List ℕ) (a r : ℕ) (text' : List ℕ) : Type 0 where
  pub answer : r ≡ a + length octets
  pub written : text' ≡ put_at text a octets

-- A line is a text and the place of its next octet. It has room for n octets where its text goes on for as many.
abbrev pub HasRoom : Line → ℕ → Type 0
HasRoom l n = l.at + n ≤ length l.text.now

-- There was room, the octets stand from the line's place on, and the text is the same one, as long as it was.
pub record Adds (octets : List ℕ) (l l' : Line) : Type 0 where
  pub room : HasRoom l (length octets)
  pub added : Added octets l.text.now l.at l'.at l'.text.now
  pub same_text : l'.text.ghost_name ≡ l.text.ghost_name
  pub same_length : length l'.text.now ≡ length l.text.now
