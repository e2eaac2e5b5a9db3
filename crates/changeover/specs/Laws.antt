-- What holds of the two calls, said plainly: the way there and back, what a refusal leaves alone, and what is never refused. All of it follows from Calls.antt.
use Rattle.std.specs.Prelude.{ℕ, ◌%◌, ◌≤◌, ◌≡◌, false, ◌⊎◌, List, length}
use Rattle.octet.specs.Octets.{Octets, at}
use Rattle.changeover.specs.declared.Changeover.{Changeover}
use Rattle.changeover.specs.Figure3.{message_of}
use Rattle.changeover.specs.Calls.{message_octets, XCO, XCA, too_wide, writing, write_call, answered, nothing, read_call}

-- Reading what was written gives the same fields.
abbrev pub Reread : Type 0
Reread = (o : List ℕ) (m : Changeover) → (write_call o m).refusal ≡ 0 → read_call (write_call o m).output ≡ answered 0 m

-- Writing what was read gives the same nine octets.
abbrev pub Rewritten : Type 0
Rewritten = (r o : List ℕ) → Octets r → length o ≡ message_octets → (read_call r).refusal ≡ 0 → write_call o (read_call r).message ≡ writing 0 r

-- A refusal to write changes nothing, and one to read answers 0 in every field.
abbrev pub RefusedUntouched : Type 0
RefusedUntouched = (o : List ℕ) (m : Changeover) → 1 ≤ (write_call o m).refusal → (write_call o m).output ≡ o

abbrev pub RefusedEmpty : Type 0
RefusedEmpty = (r : List ℕ) → 1 ≤ (read_call r).refusal → (read_call r).message ≡ nothing

-- Every nine octets with a good heading and service indicator are read, whatever the others are.
abbrev pub EveryRead : Type 0
EveryRead = (r : List ℕ) → length r ≡ message_octets → (at r 5 ≡ XCO) ⊎ (at r 5 ≡ XCA) → at r 0 % 16 ≡ 0 → read_call r ≡ answered 0 (message_of r)

-- What octets hold is never too wide, so reading never refuses by 4.
abbrev pub NeverWide : Type 0
NeverWide = (r : List ℕ) → too_wide (message_of r) ≡ false
