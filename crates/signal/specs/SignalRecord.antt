-- The signal record of document 01: twelve octets and the message that goes with the signal, one record behind the other.
use Rattle.std.specs.Prelude.{ℕ, ◌+◌, ◌≤◌, ◌≡◌, true, List, [], ◌∷◌, ◌++◌, length, take, drop}
use Rattle.unit.specs.Unit.{unit_of}
use Rattle.link.specs.declared.Carries.{Carries}
use Rattle.link.specs.declared.Signal.{Signal}
use Rattle.octet.specs.Octets.{Octets, over}
use Rattle.event.specs.Frame.{head_octets, message_octets, SG, framed_as, written, link_at, code_at, param_at, number_at, length_at, message_of}

-- The message: none, a unit, or that of the event, m.
abbrev pub body_of : Carries → List ℕ → List ℕ
body_of Carries.Nothing m = []
body_of (Carries.Unit s) m = unit_of s
body_of Carries.Message m = m

abbrev pub signal_octets : ℕ → List ℕ → Signal → List ℕ
signal_octets link m s = written SG link s.code s.param s.num (body_of s.carries m)

unfoldable pub joined : ℕ → List ℕ → List Signal → List ℕ
joined link m [] = []
joined link m (s ∷ others) = signal_octets link m s ++ joined link m others

-- Octets written over the front of an output, and their number answered.
pub record Put (octets out : List ℕ) (r : ℕ) (out' : List ℕ) : Type 0 where
  pub answer : r ≡ length octets
  pub written : out' ≡ over octets out

-- ROUND TRIPS. Reading what was written gives the signal's fields.
pub record Says (r : List ℕ) (k : ℕ) (m : List ℕ) (s : Signal) : Type 0 where
  pub framed : framed_as SG r ≡ true
  pub link : link_at r ≡ k
  pub code : code_at r ≡ s.code
  pub param : param_at r ≡ s.param
  pub num : number_at r ≡ s.num
  pub message : message_of r ≡ body_of s.carries m

abbrev pub SignalReread : Type 0
SignalReread = (link : ℕ) (m : List ℕ) (s : Signal) → length m ≤ message_octets → Says (signal_octets link m s) link m s

-- Writing what was read gives the same octets.
abbrev pub SignalRewritten : Type 0
SignalRewritten = (r : List ℕ) → Octets r → framed_as SG r ≡ true → written SG (link_at r) (code_at r) (param_at r) (number_at r) (message_of r) ≡ r

-- Of records one behind the other, the first ends where its length says, and the others follow.
pub record Apart (octets r rest : List ℕ) : Type 0 where
  pub first : take (head_octets + length_at octets) octets ≡ r
  pub others : drop (head_octets + length_at octets) octets ≡ rest

abbrev pub SignalsApart : Type 0
SignalsApart =
    (link : ℕ) (m : List ℕ) (s : Signal) (others : List Signal) → Apart (joined link m (s ∷ others)) (signal_octets link m s) (joined link m others)
