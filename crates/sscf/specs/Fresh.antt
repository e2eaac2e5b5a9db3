-- The fresh-table maker, from table and n1 to answer and table, on all octets.
use Rattle.std.specs.Prelude.{ℕ, zero, suc, List, [], ◌∷◌, ◌++◌, eqb}
use Rattle.unit.specs.Checks.{Check, ◌if◌, Verdict, passed, refused, first}
use Rattle.link.specs.Fresh.{fresh_link}
use Rattle.record.specs.LinkRecord.{n1_place, octets_of}
use Rattle.event.specs.declared.Fault.{Fault}
use Rattle.step.specs.declared.Refusal.{Refusal}
use Rattle.step.specs.Checks.{number, place}
use Rattle.step.specs.Step.{bad_table, records}
use Rattle.sscf.specs.declared.FreshAnswer.{FreshAnswer}

-- "It refuses by 1 as above", then "11 for n1 = 0, place 14", leaving the buffer untouched.
abbrev pub fresh_checks : List ℕ → ℕ → List (Check Refusal)
fresh_checks t n1 = (Refusal.Table if bad_table t) ∷ (Refusal.Field (Fault.OutOfRange n1_place) if eqb n1 0) ∷ []

pub record Made : Type 0 where
  pub answer : FreshAnswer
  pub table : List ℕ

abbrev pub fresh_answered : (refusal place : ℕ) → FreshAnswer
fresh_answered refusal place = record { refusal = refusal; place = place }

abbrev pub making : FreshAnswer → List ℕ → Made
making a t = record { answer = a; table = t }

-- a record n times
abbrev pub copies : ℕ → List ℕ → List ℕ
copies zero r = []
copies (suc n) r = r ++ copies n r

abbrev pub made : Verdict Refusal → List ℕ → ℕ → Made
made (refused r) t n1 = making (fresh_answered (number r) (place r)) t
made passed t n1 = making (fresh_answered 0 0) (copies (records t) (octets_of (fresh_link n1)))

unfoldable pub fresh_call : List ℕ → ℕ → Made
fresh_call t n1 = made (first (fresh_checks t n1)) t n1
