-- Events that stand end to end, as document 01 has records: where each ends, and which of them are sound.
use Rattle.std.specs.Prelude.{ℕ, zero, suc, ◌+◌, ◌≤◌, ◌≡◌, ◌↔◌, Bool, true, cond, List, [], ◌∷◌, length, take, drop}
use Rattle.octet.specs.Octets.{at}
use Rattle.event.specs.Frame.{head_octets, message_octets, EV, length_at}
use Rattle.event.specs.EventRecord.{framed}

-- The record at the front, as long as its own length says, and what stands behind it.
abbrev pub front : List ℕ → List ℕ
front octets = take (head_octets + length_at octets) octets

abbrev pub behind : List ℕ → List ℕ
behind octets = drop (head_octets + length_at octets) octets

-- Its frame is sound by check 2, "with the mark EV alone"; else it is broken.
abbrev pub sound : List ℕ → Bool
sound octets = framed (front octets)

-- The sound ones from the front on, up to the end or to the first broken frame, and at most n of them.
abbrev pub first_frames : ℕ → List ℕ → List (List ℕ)
first_frames zero octets = []
first_frames (suc n) octets = cond (sound octets) (front octets ∷ first_frames n (behind octets)) []

-- All of them: there are no more than octets.
unfoldable pub frames : List ℕ → List (List ℕ)
frames octets = first_frames (length octets) octets

-- WHAT IT COMES TO. "A record is well-formed (its frame is sound) if it has its 12 octets and mark, octet 9 is 0, and its length is at most 4,096 and does not pass the end."
pub record WellFormed (octets : List ℕ) : Type 0 where
  pub twelve : head_octets ≤ length octets
  pub mark₀ : at octets 0 ≡ at EV 0
  pub mark₁ : at octets 1 ≡ at EV 1
  pub nine : at octets 9 ≡ 0
  pub few : length_at octets ≤ message_octets
  pub within : head_octets + length_at octets ≤ length octets

abbrev pub SoundIsWellFormed : Type 0
SoundIsWellFormed = (octets : List ℕ) → (sound octets ≡ true) ↔ WellFormed octets

-- None is left out for want of n: where a sound one stands at the front, the others are those behind it, and else there is none.
abbrev pub FramesOneByOne : Type 0
FramesOneByOne = (octets : List ℕ) → frames octets ≡ cond (sound octets) (front octets ∷ frames (behind octets)) []
