-- What the code's own functions answer. Nothing here has to be believed: the promises of the two calls tie it to Calls.antt and Figure3.antt.
use Rattle.std.specs.Prelude.{ℕ, Bool, ◌||◌, ltb, Result, Ok, Err}
use Rattle.unit.specs.Checks.{Verdict, passed, refused}
use Rattle.changeover.specs.declared.Changeover.{Changeover}
use Rattle.changeover.specs.declared.Refusal.{Refusal}
use Rattle.changeover.specs.declared.Refusal.TheVariants.{Length, Heading, Service, Field}
use Rattle.changeover.specs.Calls.{REFUSED-LENGTH, REFUSED-HEADING, REFUSED-SERVICE, REFUSED-FIELD}

-- Of the fields, those behind octet 1.
abbrev pub too_wide_behind : Changeover → Bool
too_wide_behind m = ltb 16383 m.dpc || ltb 16383 m.opc || ltb 15 m.slc || ltb 16777215 m.number

-- The request's number of each refusal.
abbrev pub refusal_number : Refusal → ℕ
refusal_number Length = REFUSED-LENGTH
refusal_number Heading = REFUSED-HEADING
refusal_number Service = REFUSED-SERVICE
refusal_number Field = REFUSED-FIELD

-- What a `Result` of the code says of a list of checks: all are passed, or one refuses.
abbrev pub verdict_of : {A : Type 0} → Result A Refusal → Verdict ℕ
verdict_of (Ok a) = passed
verdict_of (Err r) = refused (refusal_number r)
