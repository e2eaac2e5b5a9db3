-- Document 01's refusal 4, in whose place 10, 11 and 12 have come: said again for one theorem, that together they refuse the same.
use Rattle.std.specs.Prelude.{ℕ, ◌≡◌, ◌↔◌, Bool, false, not, ◌&&◌, ◌||◌, eqb, leb}
use Rattle.unit.specs.Checks.{passed, first}
use Rattle.table6.specs.EventCodes.{MESSAGE-FOR-TRANSMISSION, RETRIEVAL-REQUEST-AND-FSNC, ESTABLISH-indication, ESTABLISH-confirm, RELEASE-indication}
use Rattle.table6.specs.EventCodes.{DATA-indication, UNITDATA-indication, RETRIEVE-indication, CONGESTION}
use Rattle.link.specs.declared.Num.{Num}
use Rattle.unit.specs.Unit.{is_status}
use Rattle.event.specs.Fields.{is_zero, fields, field_checks}

abbrev pub has_message : ℕ → Bool
has_message c = eqb c MESSAGE-FOR-TRANSMISSION || eqb c DATA-indication || eqb c UNITDATA-indication || eqb c RETRIEVE-indication

abbrev pub has_number : ℕ → Bool
has_number c = eqb c RETRIEVAL-REQUEST-AND-FSNC || eqb c RELEASE-indication || eqb c DATA-indication

-- the parameter is a status field
abbrev pub has_field : ℕ → Bool
has_field c = eqb c ESTABLISH-indication || eqb c ESTABLISH-confirm || eqb c RELEASE-indication

abbrev pub has_parameter : ℕ → Bool
has_parameter c = has_field c || eqb c CONGESTION

-- "A field set that the code doesn't carry (a length above 0 counts as one), a parameter or source out of range, or a user message under 5 octets."
unfoldable pub misfit : ℕ → ℕ → Num → ℕ → Bool
misfit c p n len =
    (not (has_message c) && leb 1 len)
    || (not (has_number c) && not (is_zero n))
    || (not (has_parameter c) && leb 1 p)
    || (has_field c && not (eqb p 0 || is_status p))
    || (eqb c CONGESTION && leb 4 p)
    || (eqb c RELEASE-indication && not (eqb n.a 0 && eqb n.b 0 && leb n.c 1))
    || (eqb c MESSAGE-FOR-TRANSMISSION && leb len 4)

-- What passes 10, 11 and 12 is what passed 4, of every code and whatever its fields hold.
abbrev pub SameMisfits : Type 0
SameMisfits = (c p : ℕ) (n : Num) (len : ℕ) → (first (field_checks c (fields p n len)) ≡ passed) ↔ (misfit c p n len ≡ false)
