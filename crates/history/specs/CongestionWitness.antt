-- Histories that the checker computes, on octets and through the calls, for request 2026-07: a link that is congested is not proved, and once congestion has ceased it is, into
-- service.
use Rattle.std.specs.Prelude.{ℕ, ◌≡◌, Bool, true, false, List, [], ◌∷◌, ◌++◌, map, length}
use Rattle.unit.specs.declared.Status.{Status}
use Rattle.unit.specs.Unit.{code}
use Rattle.table6.specs.declared.State.{State}
use Rattle.table6.specs.EventCodes as event
use Rattle.table6.specs.SignalCodes.{IN-SERVICE, ESTABLISH-response, RELEASE-request, DATA-request, START-PROVING, STOP-PROVING, REPORT, SET-T3, RESET-T1, RESET-T2, RESET-T3}
use Rattle.table6.specs.Words.{2/4/2, 2/10/3, 3/10/5}
use Rattle.octet.specs.Octets.{at, bit}
use Rattle.record.specs.LinkRecord.{state_code}
use Rattle.event.specs.Frame.{code_at}
use Rattle.step.specs.Step.{record_at}
use Rattle.history.specs.Calls.{Call}
use Rattle.history.specs.History.{proving_sent, none, history}
use Rattle.history.specs.Pics.{Source}
use Rattle.history.specs.Congestion.{flag_octet, last_octet}
use Rattle.history.specs.Witness.{plain, START, T1, T3, ESTABLISH-confirm, ESTABLISH-indication, RELEASE-indication, DATA, after}
use Rattle.history.specs.BsntWitness.{latest_signals}

abbrev pub CONGESTION : Call
CONGESTION = plain event.CONGESTION

abbrev pub CONGESTION-CEASED : Call
CONGESTION-CEASED = plain event.CONGESTION-CEASED

abbrev pub RELEASE-confirm : Call
RELEASE-confirm = plain event.RELEASE-confirm

-- WHAT A SEQUENCE SHOWS: all calls are accepted, the last one brings these signals, and the record of link 1 then has this state, flag and last field. No proving unit was
-- sent, or one was; and link 0 is not congested.
pub record Shows (calls : List Call) (signals : List ℕ) (state : State) (congested : Bool) (last : ℕ) (unproved : Bool) : Type 0 where
  pub accepted : length (after calls).seen ≡ length calls
  pub says : map code_at (latest_signals (after calls).seen) ≡ signals
  pub state_is : at (record_at (after calls).table 1) 2 ≡ state_code state
  pub flag_is : flag_octet (after calls) 1 ≡ bit congested
  pub last_is : last_octet (after calls) 1 ≡ last
  pub units : none proving_sent (history (after calls) 1) ≡ unproved
  pub other : flag_octet (after calls) 0 ≡ 0

-- PROVING STARTS, AND IS GIVEN UP in the same call
abbrev pub given_up : List ℕ
given_up = RELEASE-request ∷ REPORT ∷ STOP-PROVING ∷ RESET-T3 ∷ []

abbrev pub GivenUp : List Call → List ℕ → Type 0
GivenUp calls first = Shows calls (first ++ given_up) 2/4/2 true (code Status.PNS) true

-- a connection that was asked for is confirmed to a congested link
abbrev pub congested : List Call
congested = START ∷ CONGESTION ∷ ESTABLISH-confirm Status.NM ∷ []

-- it is released, and congestion ceases before the next is confirmed
abbrev pub ceased : List Call
ceased = congested ++ RELEASE-confirm ∷ CONGESTION-CEASED ∷ T1 ∷ ESTABLISH-confirm Status.NM ∷ []

pub record CongestionWitness : Type 0 where
  -- AT THE CONFIRM, and again where congestion has not ceased; AT THE PEER'S CALL, with eight signals
  pub by_confirm : GivenUp congested (START-PROVING ∷ SET-T3 ∷ [])
  pub again : GivenUp (congested ++ RELEASE-confirm ∷ T1 ∷ ESTABLISH-confirm Status.NM ∷ []) (START-PROVING ∷ SET-T3 ∷ [])
  pub by_response :
      GivenUp (START ∷ RELEASE-indication Source.User ∷ CONGESTION ∷ ESTABLISH-indication Status.NM ∷ []) (ESTABLISH-response ∷ START-PROVING ∷ RESET-T1 ∷ SET-T3 ∷ [])
  -- DURING PROVING, as Table 6 has it: the units sent before stand
  pub meanwhile : Shows (START ∷ ESTABLISH-confirm Status.NM ∷ T3 ∷ CONGESTION ∷ []) given_up 2/4/2 true (code Status.PNS) false
  -- CEASED: the next connection is proved, and comes into service. The last field stays.
  pub proves : Shows ceased (START-PROVING ∷ SET-T3 ∷ []) 2/10/3 false (code Status.PNS) true
  pub serves :
      Shows (ceased ++ T3 ∷ T3 ∷ DATA Status.INS ∷ T3 ∷ []) (STOP-PROVING ∷ DATA-request ∷ REPORT ∷ IN-SERVICE ∷ RESET-T2 ∷ []) 3/10/5 false (code Status.PNS) false
