-- The fields of an event: where each stands, what sets it, which codes carry it and what is its range with each of them. Refusals 10, 11 and 12 are read off this one list.
use Rattle.std.specs.Prelude.{ℕ, Bool, true, false, cond, not, ◌&&◌, ◌||◌, List, [], ◌∷◌, ◌++◌, map, eqb, leb}
use Rattle.unit.specs.Checks.{Check, ◌if◌}
use Rattle.unit.specs.Unit.{none_or_status}
use Rattle.table6.specs.EventCodes.{MESSAGE-FOR-TRANSMISSION, RETRIEVAL-REQUEST-AND-FSNC, ESTABLISH-indication, ESTABLISH-confirm, RELEASE-indication}
use Rattle.table6.specs.EventCodes.{DATA-indication, UNITDATA-indication, RETRIEVE-indication, CONGESTION}
use Rattle.table6.specs.RefusalCodes.{REFUSED-NOT-CARRIED, REFUSED-RANGE, REFUSED-SHORT}
use Rattle.link.specs.declared.Num.{Num}
use Rattle.event.specs.declared.Fault.{Fault}
use Rattle.event.specs.Frame.{parameter_place, number_place, length_place}

-- A field at fault: the refusal's number, and its place, which is that of the field's first octet.
abbrev pub fault_number : Fault → ℕ
fault_number (Fault.NotCarried q) = REFUSED-NOT-CARRIED
fault_number (Fault.OutOfRange q) = REFUSED-RANGE
fault_number (Fault.Short q) = REFUSED-SHORT

abbrev pub fault_place : Fault → ℕ
fault_place (Fault.NotCarried q) = q
fault_place (Fault.OutOfRange q) = q
fault_place (Fault.Short q) = q

-- WHAT THERE IS TO SAY OF A FIELD

-- A code that carries it, and whether what stands there is in its range with that code.
pub record Carrier : Type 0 where
  pub code : ℕ
  pub fits : Bool

infixl 20 ◌takes◌
abbrev pub ◌takes◌ : ℕ → Bool → Carrier
c takes b = record { code = c; fits = b }

-- Its first octet, whether it is set, the codes that carry it, and what it is refused as out of its range.
pub record EventField : Type 0 where
  pub place : ℕ
  pub set : Bool
  pub carriers : List Carrier
  pub refusal : ℕ → Fault

-- RANGES

abbrev pub anything : Bool
anything = true

abbrev pub is_zero : Num → Bool
is_zero n = eqb n.a 0 && eqb n.b 0 && eqb n.c 0

-- "The source, 0 for the far user and 1 for SSCOP, and no other."
abbrev pub is_source : Num → Bool
is_source n = eqb n.a 0 && eqb n.b 0 && leb n.c 1

-- THE LIST: the parameter, the number, and the length of the message.
abbrev pub parameter_field : ℕ → EventField
parameter_field p =
    record {
      place = parameter_place;
      set = leb 1 p;
      carriers =
          (ESTABLISH-indication takes none_or_status p)
          ∷ (ESTABLISH-confirm takes none_or_status p)
          ∷ (RELEASE-indication takes none_or_status p)
          ∷ (CONGESTION takes leb p 3)
          ∷ [];
      refusal = Fault.OutOfRange;
    }

abbrev pub number_field : Num → EventField
number_field n =
    record {
      place = number_place;
      set = not (is_zero n);
      carriers =
          (RETRIEVAL-REQUEST-AND-FSNC takes anything)
          ∷ (RELEASE-indication takes is_source n)
          ∷ (DATA-indication takes anything)
          ∷ [];
      refusal = Fault.OutOfRange;
    }

abbrev pub length_field : ℕ → EventField
length_field len =
    record {
      place = length_place;
      set = leb 1 len;
      carriers =
          (MESSAGE-FOR-TRANSMISSION takes leb 5 len)
          ∷ (DATA-indication takes anything)
          ∷ (UNITDATA-indication takes anything)
          ∷ (RETRIEVE-indication takes anything)
          ∷ [];
      refusal = Fault.Short;
    }

abbrev pub fields : ℕ → Num → ℕ → List EventField
fields p n len = parameter_field p ∷ number_field n ∷ length_field len ∷ []

-- WHAT IS WRONG WITH ONE, with a code

abbrev pub is_carrier : ℕ → List Carrier → Bool
is_carrier c [] = false
is_carrier c (k ∷ others) = eqb c k.code || is_carrier c others

-- with a code that does not carry it a field has no range
abbrev pub in_range : ℕ → List Carrier → Bool
in_range c [] = true
in_range c (k ∷ others) = cond (eqb c k.code) k.fits (in_range c others)

-- "A field set that the code doesn't carry."
unfoldable pub not_carried : ℕ → EventField → Bool
not_carried c f = not (is_carrier c f.carriers) && f.set

-- Out of its range with a code that carries it.
unfoldable pub out_of_range : ℕ → EventField → Bool
out_of_range c f = not (in_range c f.carriers)

-- THE CHECKS that the list gives: 10 of each field, then of each the refusal of what is out of its range, 11 and, of the length, which is last, 12.
abbrev pub field_checks : ℕ → List EventField → List (Check Fault)
field_checks c fs =
    map (λ (f : EventField). Fault.NotCarried f.place if not_carried c f) fs ++ map (λ (f : EventField). f.refusal f.place if out_of_range c f) fs
