-- What the reader's first look at an event tells, and its look field by field. Nothing here has to be believed: the reader's promise ties it to EventRecord.antt.
use Rattle.std.specs.Prelude.{ℕ, ◌≡◌, true, false, List, Result, Ok, Err}
use Rattle.unit.specs.Checks.{Verdict, passed, refused, first}
use Rattle.event.specs.declared.Look.{Look}
use Rattle.event.specs.declared.Fault.{Fault}
use Rattle.event.specs.Frame.{code_at}
use Rattle.event.specs.Fields.{field_checks}
use Rattle.event.specs.EventRecord.{coded_in, unknown, fields_in}

abbrev pub Seen : List ℕ → Look → Type 0
Seen e Look.Unknown = unknown (coded_in e) ≡ true
Seen e Look.Fits = (unknown (coded_in e) ≡ false) × (first (field_checks (code_at e) (fields_in e)) ≡ passed)
Seen e Look.Closer = unknown (coded_in e) ≡ false

-- The fields one by one: the fault that is found first, or none.
abbrev pub faulty : Result (Unit {0}) Fault → Verdict Fault
faulty (Ok none) = passed
faulty (Err f) = refused f
