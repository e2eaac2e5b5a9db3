-- The two calls, from what is handed in to the answer and every octet lent, on all octets and all messages: the checks in the request's order, then figure 3.
use Rattle.std.specs.Prelude.{ℕ, Bool, not, ◌||◌, List, [], ◌∷◌, eqb, ltb, length}
use Rattle.unit.specs.Checks.{Check, ◌if◌, Verdict, passed, refused, first}
use Rattle.changeover.specs.declared.Changeover.{Changeover}
use Rattle.changeover.specs.declared.Answer.{Answer}
use Rattle.changeover.specs.Figure3.{octets_of, message_of}

abbrev pub message_octets : ℕ
message_octets = 9

-- The headings: H1, the bits D C B A of clause 9.8.1, and then H0. An extended changeover order has 0 0 1 1, its acknowledgement 0 1 0 0.
abbrev pub XCO : ℕ
XCO = 0b00110001

abbrev pub XCA : ℕ
XCA = 0b01000001

-- THE CHECKS, in the request's order

abbrev pub REFUSED-LENGTH : ℕ
REFUSED-LENGTH = 1

abbrev pub REFUSED-HEADING : ℕ
REFUSED-HEADING = 2

abbrev pub REFUSED-SERVICE : ℕ
REFUSED-SERVICE = 3

abbrev pub REFUSED-FIELD : ℕ
REFUSED-FIELD = 4

-- "Sub-service or SLC above 15, DPC or OPC above 16,383, number above 16,777,215."
abbrev pub too_wide : Changeover → Bool
too_wide m = ltb 15 m.ssf || ltb 16383 m.dpc || ltb 16383 m.opc || ltb 15 m.slc || ltb 16777215 m.number

-- Of as many octets, the output's or the input's, and a message. The last is for writing: what octets hold is never too wide (`NeverWide`).
abbrev pub checks : ℕ → Changeover → List (Check ℕ)
checks octets m =
    (REFUSED-LENGTH if not (eqb octets message_octets))
    ∷ (REFUSED-HEADING if not (eqb m.heading XCO || eqb m.heading XCA))
    ∷ (REFUSED-SERVICE if not (eqb m.si 0))
    ∷ (REFUSED-FIELD if too_wide m)
    ∷ []

-- THE WRITER

pub record Written : Type 0 where
  pub refusal : ℕ
  pub output : List ℕ

abbrev pub writing : ℕ → List ℕ → Written
writing n o = record { refusal = n; output = o }

-- The output has nine octets, and all of them are written.
abbrev pub written : Verdict ℕ → List ℕ → Changeover → Written
written (refused n) o m = writing n o
written passed o m = writing 0 (octets_of m)

unfoldable pub write_call : List ℕ → Changeover → Written
write_call o m = written (first (checks (length o) m)) o m

-- THE READER

abbrev pub answered : ℕ → Changeover → Answer
answered n m = record { refusal = n; message = m }

abbrev pub nothing : Changeover
nothing = record { ssf = 0; si = 0; dpc = 0; opc = 0; slc = 0; heading = 0; number = 0 }

abbrev pub read : Verdict ℕ → Changeover → Answer
read (refused n) m = answered n nothing
read passed m = answered 0 m

unfoldable pub read_call : List ℕ → Answer
read_call r = read (first (checks (length r) (message_of r))) (message_of r)
