-- Histories that the checker computes, on octets and through the calls, so that nobody has to wonder whether the demand is empty: three in which a link
-- comes into service, and for each condition of the demand one or more in which it fails and the link does not stand in service.
use Rattle.std.specs.Prelude.{ℕ, ◌+◌, ◌≡◌, Bool, true, false, List, [], ◌∷◌, ◌++◌, eqb, length, replicate}
use Rattle.unit.specs.declared.Status.{Status}
use Rattle.unit.specs.Unit.{code, unit_of}
use Rattle.table6.specs.EventCodes as event
use Rattle.link.specs.Signal.{none, num}
use Rattle.event.specs.Frame.{EV, written}
use Rattle.step.specs.Step.{records, output_octets}
use Rattle.sscf.specs.Fresh.{fresh_call}
use Rattle.history.specs.Calls.{Call, fresh, step, burst, World, made, run}
use Rattle.history.specs.History.{Mark, history}
use Rattle.history.specs.Pics.{Source, sourced}
use Rattle.history.specs.Tests.{stands, alive, sent, due, told_ins, heard_ins}

-- EVENTS, all for link 1 of a table of two links with n1 = 2, each with room for 4,240 octets

abbrev pub room : List ℕ
room = replicate output_octets 0

abbrev pub plain : ℕ → Call
plain c = step (written EV 1 c 0 none []) room

abbrev pub START : Call
START = plain event.START

abbrev pub STOP : Call
STOP = plain event.STOP

abbrev pub EMERGENCY : Call
EMERGENCY = plain event.EMERGENCY

abbrev pub FORCE-EMERGENCY : Call
FORCE-EMERGENCY = plain event.FORCE-EMERGENCY

abbrev pub RELEASE : Call
RELEASE = plain event.RELEASE

abbrev pub T1 : Call
T1 = plain event.T1-expired

abbrev pub T3 : Call
T3 = plain event.T3-expired

abbrev pub ESTABLISH-confirm : Status → Call
ESTABLISH-confirm s = step (written EV 1 event.ESTABLISH-confirm (code s) none []) room

abbrev pub ESTABLISH-indication : Status → Call
ESTABLISH-indication s = step (written EV 1 event.ESTABLISH-indication (code s) none []) room

abbrev pub RELEASE-indication : Source → Call
RELEASE-indication source = step (written EV 1 event.RELEASE-indication 0 (num 0 0 (sourced source)) []) room

abbrev pub DATA : Status → Call
DATA s = step (written EV 1 event.DATA-indication 0 none (unit_of s)) room

-- WHAT A SEQUENCE SHOWS: the table has two links, all calls are accepted, link 1 stands in service or not, and these of the four conditions hold: the present
-- connection, the number of units sent on it, the INS unit after them, the peer's INS unit.

abbrev pub after : List Call → World
after calls = run (made (replicate 40 0) 2) calls

abbrev pub conditions : List Mark → List Bool
conditions h = alive h ∷ eqb (sent h) (due 2 h) ∷ told_ins 2 h ∷ heard_ins h ∷ []

pub record Shows (calls : List Call) (in_service : Bool) (hold : List Bool) : Type 0 where
  pub links : records (after calls).table ≡ 2
  pub accepted : length (after calls).seen ≡ length calls
  pub service : stands (history (after calls) 1) ≡ in_service
  pub condition : conditions (history (after calls) 1) ≡ hold

abbrev pub In : List Call → Type 0
In calls = Shows calls true (true ∷ true ∷ true ∷ true ∷ [])

abbrev pub Out : List Call → List Bool → Type 0
Out calls hold = Shows calls false hold

-- The same of one burst: the events of steps end to end, and octets behind them. So many events are accepted.
abbrev pub octets : List Call → List ℕ
octets [] = []
octets (step e o ∷ calls) = e ++ octets calls
octets (fresh buffer n1 ∷ calls) = octets calls
octets (burst es o l ∷ calls) = es ++ octets calls

abbrev pub in_one : List Call → List ℕ → Call
in_one calls behind = burst (octets calls ++ behind) (replicate (output_octets + 400) 0) (replicate (length calls) 0)

pub record InBurst (calls : List Call) (behind : List ℕ) (events : ℕ) (in_service : Bool) (hold : List Bool) : Type 0 where
  pub accepted : length (after (in_one calls behind ∷ [])).seen ≡ events
  pub service : stands (history (after (in_one calls behind ∷ [])) 1) ≡ in_service
  pub condition : conditions (history (after (in_one calls behind ∷ [])) 1) ≡ hold

-- two proving units, the peer's INS unit, and with the third expiry the link's own
abbrev pub proved : List Call
proved = START ∷ ESTABLISH-confirm Status.NM ∷ T3 ∷ T3 ∷ DATA Status.INS ∷ T3 ∷ []

pub record Witness : Type 0 where
  pub begins : (fresh_call (replicate 40 0) 2).answer.refusal ≡ 0
  -- IN SERVICE, with proving and without: forced by management, or by the user's wish, where the peer calls
  pub with_proving : In proved
  pub without : In (FORCE-EMERGENCY ∷ START ∷ ESTABLISH-confirm Status.NM ∷ T3 ∷ DATA Status.INS ∷ [])
  pub by_wish : In (START ∷ RELEASE-indication Source.User ∷ EMERGENCY ∷ ESTABLISH-indication Status.NM ∷ T3 ∷ DATA Status.INS ∷ [])
  -- THE CONNECTION: none has come up; it was released by this end, by the far end, by SSCOP, by the user's stop. All else was done on it (`with_proving`), and
  -- is nothing to the present connection, which there is not.
  pub not_up : Out (START ∷ []) (false ∷ false ∷ false ∷ false ∷ [])
  pub by_this_end : Out (proved ++ RELEASE ∷ []) (false ∷ false ∷ false ∷ false ∷ [])
  pub by_far_end : Out (proved ++ RELEASE-indication Source.User ∷ []) (false ∷ false ∷ false ∷ false ∷ [])
  pub by_sscop : Out (proved ++ RELEASE-indication Source.SSCOP ∷ []) (false ∷ false ∷ false ∷ false ∷ [])
  pub by_stop : Out (proved ++ STOP ∷ []) (false ∷ false ∷ false ∷ false ∷ [])
  -- THE UNITS: one of two was sent; the INS unit, which comes after them, cannot have been.
  pub one_unit : Out (START ∷ ESTABLISH-confirm Status.NM ∷ T3 ∷ DATA Status.INS ∷ []) (true ∷ false ∷ false ∷ true ∷ [])
  -- THE INS UNIT
  pub not_sent : Out (START ∷ ESTABLISH-confirm Status.NM ∷ T3 ∷ T3 ∷ DATA Status.INS ∷ []) (true ∷ true ∷ false ∷ true ∷ [])
  -- THE PEER'S INS UNIT: it did not come; it came on an earlier connection
  pub not_received : Out (START ∷ ESTABLISH-confirm Status.NM ∷ T3 ∷ T3 ∷ T3 ∷ []) (true ∷ true ∷ true ∷ false ∷ [])
  pub earlier :
      Out (START ∷ ESTABLISH-confirm Status.NM ∷ DATA Status.INS ∷ RELEASE-indication Source.User ∷ T1 ∷ ESTABLISH-confirm Status.NM ∷ T3 ∷ T3 ∷ T3 ∷ []) (true ∷ true ∷ true ∷ false ∷ [])
  -- A refused call counts as nothing, a table made anew begins a new history, and what comes to link 1 does not come to link 0.
  pub refused : history (after (START ∷ START ∷ [])) 1 ≡ history (after (START ∷ [])) 1
  pub anew : history (after (proved ++ fresh (replicate 20 0) 3 ∷ [])) 1 ≡ []
  pub of_another : history (after proved) 0 ≡ []
  -- A burst counts as its single calls: all six events take the link into service, past a seventh that is refused too, and before a broken frame what was done stands.
  pub as_burst : InBurst proved [] 6 true (true ∷ true ∷ true ∷ true ∷ [])
  pub past_refused : InBurst (START ∷ proved) [] 6 true (true ∷ true ∷ true ∷ true ∷ [])
  pub up_to_broken : InBurst (START ∷ []) (0 ∷ []) 1 false (false ∷ false ∷ false ∷ false ∷ [])
