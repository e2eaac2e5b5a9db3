-- Checks in order, each with its refusal: the first that holds refuses.
use Rattle.std.specs.Prelude.{ℕ, Bool, cond, List, [], ◌∷◌}

-- A refusal, given exactly if its test holds and none before it does.
pub record Check (R : Type 0) : Type 0 where
  pub refusal : R
  pub holds : Bool

infixl 20 ◌if◌
abbrev pub ◌if◌ : {R : Type 0} → R → Bool → Check R
r if b = record { refusal = r; holds = b }

pub data Verdict (R : Type 0) : Type 0 where
  passed : Verdict R
  refused : R → Verdict R

abbrev pub first : {R : Type 0} → List (Check R) → Verdict R
first [] = passed
first (c ∷ others) = cond c.holds (refused c.refusal) (first others)

-- The same test, with a refusal made of its own.
abbrev pub by : {R S : Type 0} → (R → S) → Check R → Check S
by f c = f c.refusal if c.holds

-- How a verdict is answered where refusals are numbers: by its number, or 0.
abbrev pub number_of : Verdict ℕ → ℕ
number_of passed = 0
number_of (refused n) = n
