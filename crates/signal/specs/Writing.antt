-- How the code writes a signal: first the mark and the link's number, then, by its word, the octets from the code on. Nothing here has to be believed: the promise
-- of a step names none of it.
use Rattle.std.specs.Prelude.{ℕ, zero, suc, ◌+◌, ◌*◌, ◌/◌, ◌%◌, ◌≤◌, ◌<◌, ◌≡◌, ◌⊎◌, List, [], ◌∷◌, ◌++◌, length, take, drop, get_or}
use Rattle.unit.specs.declared.Mps.{Mps}
use Rattle.unit.specs.declared.Ups.{Ups}
use Rattle.table6.specs.Stored.{word_at, from}
use Rattle.link.specs.declared.Link.{Link}
use Rattle.link.specs.declared.Signal.{Signal}
use Rattle.link.specs.Signal.{none, signal_of}
use Rattle.link.specs.Stored.{Given, given_by}
use Rattle.octet.specs.Octets.{at, put_at}
use Rattle.event.specs.Frame.{head_octets, message_octets, SG, head_of, param_at, number_at, length_at, message_of}
use Rattle.signal.specs.declared.Run.{Run}
use Rattle.signal.specs.SignalRecord.{body_of}

-- What signals are given: by the octets of the event, and by the link that is left.
abbrev pub given : Link → List ℕ → Given
given l e = given_by (param_at e) (number_at e) l

-- The octets of an event are as many as it says.
abbrev pub Whole : List ℕ → Type 0
Whole e = (head_octets ≤ length e) × (length_at e ≡ length (message_of e)) × (length (message_of e) ≤ message_octets)

-- a signal's mark, and the link's number as the event's octets have it
abbrev pub front_of : List ℕ → List ℕ
front_of e = at SG 0 ∷ at SG 1 ∷ at e 2 ∷ at e 3 ∷ []

-- a signal's octets behind the mark and the link's number
abbrev pub from_code : List ℕ → Signal → List ℕ
from_code m s = let b = body_of s.carries m in drop 4 (head_of SG 0 s.code s.param s.num (length b)) ++ b

-- Such octets written at their place, and the number of the signal's octets answered.
pub record PutCode (octets out : List ℕ) (r : ℕ) (out' : List ℕ) : Type 0 where
  pub answer : r ≡ 4 + length octets
  pub written : out' ≡ put_at out 4 octets

-- The signals that are known beforehand are the words below 36: their octets are the same whatever the event and the link bring.
abbrev pub fixed_words : ℕ
fixed_words = 36

-- a word's octets where event and link bring nothing
abbrev pub fixed_of : ℕ → List ℕ
fixed_of w = from_code [] (signal_of 0 none Mps.Neutral Ups.Normal none (word_at w))

-- any other word stands here for 12, proving
unfoldable pub fixed_at : ℕ → List ℕ
fixed_at w = get_or (from fixed_of 0 fixed_words) w (fixed_of 12)

-- what is written of any other before what it carries is in its place
abbrev pub carrying_at : ℕ → List ℕ
carrying_at w = take 8 (fixed_of w)

-- RUNS of signals that are known beforehand: the octets of i of them, by the words from the lowest on; what is left of the words; and that each of them is known beforehand.
abbrev pub known : List ℕ → ℕ → ℕ → List ℕ
known front zero rest = []
known front (suc i) rest = (front ++ fixed_at (rest % 256)) ++ known front i (rest / 256)

abbrev pub after : ℕ → ℕ → ℕ
after zero rest = rest
after (suc i) rest = after i (rest / 256)

abbrev pub AllKnown : ℕ → ℕ → Type 0
AllKnown zero rest = Unit {0}
AllKnown (suc i) rest = (rest % 256 < fixed_words) × AllKnown i (rest / 256)

-- From one place of the writer to another, with some told between.
pub record Ran (front : List ℕ) (run : Run) (out : List ℕ) (r : Run) (out' : List ℕ) : Type 0 where
  pub told : ℕ
  pub all : r.left + told ≡ run.left
  pub at : r.at ≡ run.at + 12 * told
  pub rest : r.rest ≡ after told run.rest
  pub words : AllKnown told run.rest
  pub written : out' ≡ put_at out run.at (known front told run.rest)

-- It stands at the end, or before a signal that carries something.
abbrev pub Halts : Run → Type 0
Halts r = (r.left ≡ 0) ⊎ (fixed_words ≤ r.rest % 256)
