-- What the event and the signal record of document 01 have alike: twelve octets, and the message behind them.
use Rattle.std.specs.Prelude.{ℕ, ◌+◌, ◌/◌, ◌%◌, Bool, ◌&&◌, List, [], ◌∷◌, ◌++◌, eqb, leb, length, drop}
use Rattle.link.specs.declared.Num.{Num}
use Rattle.octet.specs.Octets.{at, two}

abbrev pub head_octets : ℕ
head_octets = 12

-- at most
abbrev pub message_octets : ℕ
message_octets = 4096

-- The marks.
abbrev pub EV : List ℕ
EV = 69 ∷ 86 ∷ []

abbrev pub SG : List ℕ
SG = 83 ∷ 71 ∷ []

-- The twelve octets: mark, link, code, parameter, number, zero, and the length of the message.
abbrev pub head_of : List ℕ → ℕ → ℕ → ℕ → Num → ℕ → List ℕ
head_of mark link c p n len =
    at mark 0
    ∷ at mark 1
    ∷ (link / 256)
    ∷ (link % 256)
    ∷ c
    ∷ p
    ∷ n.a
    ∷ n.b
    ∷ n.c
    ∷ 0
    ∷ (len / 256)
    ∷ (len % 256)
    ∷ []

unfoldable pub written : List ℕ → ℕ → ℕ → ℕ → Num → List ℕ → List ℕ
written mark link c p n m = head_of mark link c p n (length m) ++ m

-- What stands where; the fields that a code may carry, by the place of their first octet.
abbrev pub parameter_place : ℕ
parameter_place = 5

abbrev pub number_place : ℕ
number_place = 6

abbrev pub length_place : ℕ
length_place = 10

abbrev pub link_at : List ℕ → ℕ
link_at r = two (at r 2) (at r 3)

abbrev pub code_at : List ℕ → ℕ
code_at r = at r 4

abbrev pub param_at : List ℕ → ℕ
param_at r = at r parameter_place

abbrev pub number_at : List ℕ → Num
number_at r = record { a = at r number_place; b = at r (number_place + 1); c = at r (number_place + 2) }

abbrev pub length_at : List ℕ → ℕ
length_at r = two (at r length_place) (at r (length_place + 1))

abbrev pub message_of : List ℕ → List ℕ
message_of r = drop head_octets r

-- At least twelve octets, the mark, octet 9 zero, and a length of at most 4,096 that is the length of what follows.
unfoldable pub framed_as : List ℕ → List ℕ → Bool
framed_as mark r =
    leb head_octets (length r)
    && (eqb (at r 0) (at mark 0)
    && eqb (at r 1) (at mark 1)
    && eqb (at r 9) 0
    && leb (length_at r) message_octets
    && eqb (head_octets + length_at r) (length r))
