-- Histories that the checker computes, on octets and through the calls, for request 2026-02: RETRIEVE_BSNT is handed in as the last call of each, and this is what it answers.
use Rattle.std.specs.Prelude.{ℕ, ◌≡◌, List, [], ◌∷◌, ◌++◌, length}
use Rattle.unit.specs.declared.Status.{Status}
use Rattle.unit.specs.Unit.{unit_of}
use Rattle.table6.specs.EventCodes as event
use Rattle.link.specs.declared.Bsnt.{Bsnt}
use Rattle.link.specs.Effect.{taken, not_retrievable}
use Rattle.link.specs.Signal.{num}
use Rattle.event.specs.Frame.{EV, written}
use Rattle.signal.specs.SignalRecord.{signal_octets}
use Rattle.history.specs.Calls.{Call, step, Seen}
use Rattle.history.specs.History.{history}
use Rattle.history.specs.Pics.{Source}
use Rattle.history.specs.Bsnt.{answer}
use Rattle.history.specs.Tests.{bsnt}
use Rattle.history.specs.Witness.{room, plain, START, STOP, RELEASE, ESTABLISH-confirm, ESTABLISH-indication, RELEASE-indication, after}

-- a proving unit, with a number
abbrev pub DATA : ℕ → Call
DATA n = step (written EV 1 event.DATA-indication 0 (num 0 0 n) (unit_of Status.NM)) room

abbrev pub RETRIEVE-BSNT : Call
RETRIEVE-BSNT = plain event.RETRIEVE-BSNT

abbrev pub latest_signals : List Seen → List (List ℕ)
latest_signals [] = []
latest_signals (s ∷ earlier) = s.signals

-- WHAT A SEQUENCE SHOWS: all calls are accepted, the last one among them, it answers this of link 1, and this is what the history tells.
pub record Shows (calls : List Call) (b : Bsnt) : Type 0 where
  pub accepted : length (after (calls ++ RETRIEVE-BSNT ∷ [])).seen ≡ length (calls ++ RETRIEVE-BSNT ∷ [])
  pub answers : latest_signals (after (calls ++ RETRIEVE-BSNT ∷ [])).seen ≡ signal_octets 1 [] (answer b) ∷ []
  pub told : bsnt (history (after calls) 1) ≡ b

abbrev pub Number : ℕ → List Call → Type 0
Number n calls = Shows calls (taken (num 0 0 n))

abbrev pub None : List Call → Type 0
None calls = Shows calls not_retrievable

-- a connection, and number 7 on it
abbrev pub seven : List Call
seven = START ∷ ESTABLISH-confirm Status.NM ∷ DATA 7 ∷ []

pub record BsntWitness : Type 0 where
  pub never : None []
  -- THE NUMBER IS KEPT over a release, by this end or the far one; while the next connection is only asked for; and where a peer's is refused
  pub over_own_release : Number 7 (seven ++ RELEASE ∷ [])
  pub over_far_release : Number 7 (seven ++ RELEASE-indication Source.User ∷ STOP ∷ [])
  pub while_asked : Number 7 (seven ++ RELEASE ∷ START ∷ STOP ∷ [])
  pub peer_refused : Number 7 (seven ++ RELEASE-indication Source.User ∷ ESTABLISH-indication Status.PO ∷ STOP ∷ [])
  -- IT IS FORGOTTEN when the next connection comes up: by confirm, by response, and by a confirm that is then released for its field
  pub by_confirm : None (seven ++ RELEASE ∷ START ∷ ESTABLISH-confirm Status.NM ∷ RELEASE ∷ [])
  pub by_response : None (seven ++ RELEASE-indication Source.User ∷ ESTABLISH-indication Status.NM ∷ RELEASE ∷ [])
  pub by_released_confirm : None (seven ++ RELEASE ∷ START ∷ ESTABLISH-confirm Status.PO ∷ STOP ∷ [])
  -- and then the latest that came on that connection is the number
  pub anew : Number 9 (seven ++ RELEASE ∷ START ∷ ESTABLISH-confirm Status.NM ∷ DATA 8 ∷ DATA 9 ∷ RELEASE ∷ [])
