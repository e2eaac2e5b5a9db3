-- Octets, numbers of two octets, and octets written over others.
use Rattle.std.specs.Prelude.{ℕ, ◌+◌, ◌*◌, ◌<◌, Bool, cond, List, [], ◌∷◌, ◌++◌, length, take, drop, get_or}

-- the octet i of a list
abbrev pub at : List ℕ → ℕ → ℕ
at r i = get_or r i 0

abbrev pub two : ℕ → ℕ → ℕ
two a b = a * 256 + b

abbrev pub bit : Bool → ℕ
bit b = cond b 1 0

-- each is an octet
abbrev pub Octets : List ℕ → Type 0
Octets [] = Unit {0}
Octets (x ∷ r) = (x < 256) × Octets r

-- d with s written over its front
unfoldable pub over : List ℕ → List ℕ → List ℕ
over s d = s ++ drop (length s) d

-- d with s written from place a
unfoldable pub put_at : List ℕ → ℕ → List ℕ → List ℕ
put_at d a s = take a d ++ over s (drop a d)
