-- What an answer of the code that is an enum stands for, in document 01's numbers and values: refused by the number of a check, or accepted with a value.
use Rattle.std.specs.Prelude.{ℕ}

pub data Answered (A : Type 0) : Type 0 where
  refused : ℕ → Answered A
  accepted : A → Answered A
