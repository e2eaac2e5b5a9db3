-- The numbers of the refusals, by what is refused: document 01's but for 4, and document 02's 10 to 12 in its stead and 13.
use Rattle.std.specs.Prelude.{ℕ}

abbrev pub REFUSED-TABLE : ℕ
REFUSED-TABLE = 1

abbrev pub REFUSED-FRAME : ℕ
REFUSED-FRAME = 2

abbrev pub REFUSED-CODE : ℕ
REFUSED-CODE = 3

abbrev pub REFUSED-LINK : ℕ
REFUSED-LINK = 5

abbrev pub REFUSED-RECORD : ℕ
REFUSED-RECORD = 6

abbrev pub REFUSED-TIMER : ℕ
REFUSED-TIMER = 7

abbrev pub REFUSED-STATE : ℕ
REFUSED-STATE = 8

abbrev pub REFUSED-OUTPUT : ℕ
REFUSED-OUTPUT = 9

abbrev pub REFUSED-NOT-CARRIED : ℕ
REFUSED-NOT-CARRIED = 10

abbrev pub REFUSED-RANGE : ℕ
REFUSED-RANGE = 11

abbrev pub REFUSED-SHORT : ℕ
REFUSED-SHORT = 12

abbrev pub REFUSED-LIST : ℕ
REFUSED-LIST = 13
