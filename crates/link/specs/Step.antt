-- What one event does to one link: the row of Table 6 that it meets, the cell of the link's state, what the facts choose there, performed; and where that leads to
-- proving on a congested link, the cell of congestion behind it.
use Rattle.std.specs.Prelude.{ℕ, Bool, true, cond, not, ◌&&◌, List, ◌++◌, map, eqb, ltb}
use Rattle.unit.specs.declared.Status.{Status}
use Rattle.unit.specs.declared.Arrived.{Arrived}
use Rattle.unit.specs.Unit.{code}
use Rattle.table6.specs.declared.Facts.{Facts}
use Rattle.table6.specs.Cell.{T1, T2, T3, take-BSNT, end, cell, Choice, illegal, does, chosen}
use Rattle.table6.specs.Table6 as paper
use Rattle.table6.specs.Order.{signals}
use Rattle.table6.specs.Rows.{Heading, plain, behind, AA-ESTABLISH-indication, AA-ESTABLISH-confirm, AA-RELEASE-indication, Local-Congestion, Local-Congestion-Ceased, printed}
use Rattle.table6.specs.Words.{is-2/10/3}
use Rattle.link.specs.declared.Num.{Num}
use Rattle.link.specs.declared.Link.{Link}
use Rattle.link.specs.declared.Event.{Event}
use Rattle.link.specs.declared.Event.TheVariants as event
use Rattle.link.specs.declared.Signal.{Signal}
use Rattle.link.specs.Effect.{with_state, performed}
use Rattle.link.specs.Signal.{none, signal_of}

-- The rows that an event meets, and what it brings: the parameter, the number, the source of a release, the length of a retrieved message.
pub record Meeting : Type 0 where
  pub heading : Heading
  pub param : ℕ
  pub number : Num
  pub source : ℕ
  pub len : ℕ

abbrev pub meets : Heading → Meeting
meets h = record { heading = h; param = 0; number = none; source = 0; len = 0 }

abbrev pub with_parameter : ℕ → Heading → Meeting
with_parameter p h = record { heading = h; param = p; number = none; source = 0; len = 0 }

-- The row of data by what arrived, and of a T3 expiry by C1.
abbrev pub data_row : Arrived → Heading
data_row Arrived.INS = behind take-BSNT paper.AA-DATA-indication-with-INS
data_row Arrived.NM = behind take-BSNT paper.AA-DATA-indication-with-NM
data_row (Arrived.Other status) = behind take-BSNT paper.AA-DATA-indication-with-other
data_row Arrived.Short = behind take-BSNT paper.AA-DATA-indication-with-other
data_row Arrived.Long = behind take-BSNT paper.AA-DATA-indication-with-MU>4

abbrev pub t3_row : ℕ → Heading
t3_row c1 = cond (eqb c1 0) (behind (end T3) paper.T3-expires-and-C1=0) (behind (end T3) paper.T3-expires-and-C1>0)

abbrev pub meeting : Event → ℕ → Meeting
meeting event.Message c1 = meets (plain paper.AAL-MESSAGE-FOR-TRANSMISSION-request)
meeting event.Emergency c1 = meets (plain paper.AAL-EMERGENCY-request)
meeting event.EmergencyCeases c1 = meets (plain paper.AAL-EMERGENCY-CEASES-request)
meeting event.Stop c1 = meets (plain paper.AAL-STOP-request)
meeting event.Start c1 = meets (plain paper.AAL-START-request)
meeting event.RetrieveBsnt c1 = meets (plain paper.AAL-RETRIEVE-BSNT-request)
meeting (event.Retrieval n) c1 = record { heading = plain paper.AAL-RETRIEVAL-REQUEST-AND-FSNC-request; param = 0; number = n; source = 0; len = 0 }
meeting event.FlushBuffers c1 = meets (plain paper.AAL-FLUSH-BUFFERS-request)
meeting event.Continue c1 = meets (plain paper.AAL-CONTINUE-request)
meeting (event.EstablishIndication f) c1 = with_parameter f AA-ESTABLISH-indication
meeting (event.EstablishConfirm f) c1 = with_parameter f AA-ESTABLISH-confirm
meeting (event.ReleaseIndication f s) c1 = record { heading = AA-RELEASE-indication; param = f; number = none; source = s; len = 0 }
meeting event.ReleaseConfirm c1 = meets (plain paper.AA-RELEASE-confirm)
meeting (event.Data a n) c1 = record { heading = data_row a; param = 0; number = n; source = 0; len = 0 }
meeting event.Resync c1 = meets (plain paper.AA-RESYNC-indication)
meeting event.Recover c1 = meets (plain paper.AA-RECOVER-indication)
meeting event.UnitData c1 = meets (plain paper.AA-UNITDATA-indication)
meeting (event.Retrieve k) c1 = record { heading = plain paper.AA-RETRIEVE-indication; param = 0; number = none; source = 0; len = k }
meeting event.RetrieveComplete c1 = meets (plain paper.AA-RETRIEVE-COMPLETE-indication)
meeting event.ProvingUnsuccessful c1 = meets (plain paper.MAAL-PROVING-UNSUCCESSFUL-response)
meeting event.Release c1 = meets (plain paper.MAAL-RELEASE-request)
meeting event.Outage c1 = meets (plain paper.MAAL-LOCAL-PROCESSOR-OUTAGE-request)
meeting event.Recovered c1 = meets (plain paper.MAAL-LOCAL-PROCESSOR-RECOVERED-request)
meeting event.ForceProving c1 = meets (plain paper.MAAL-FORCE-PROVING-request)
meeting event.ForceEmergency c1 = meets (plain paper.MAAL-FORCE-EMERGENCY-request)
meeting event.ClearForceModes c1 = meets (plain paper.MAAL-CLEAR-FORCE-MODES-request)
meeting (event.Congestion level) c1 = with_parameter level Local-Congestion
meeting event.CongestionCeased c1 = meets Local-Congestion-Ceased
meeting event.T1 c1 = meets (behind (end T1) paper.T1-expires)
meeting event.T2 c1 = meets (behind (end T2) paper.T2-expires)
meeting event.T3 c1 = meets (t3_row c1)

-- A field that is EM or NM.
abbrev pub named : ℕ → Bool
named field = cond (eqb field (code Status.EM)) true (eqb field (code Status.NM))

-- What the conditions of a cell ask.
abbrev pub facts : Link → Meeting → Facts
facts l m =
    record { lpo = l.lpo; ins = l.ins; uu = named m.param; user = eqb m.source 0; bsnt = l.bsnt.known; long = ltb 4 m.len }

-- Illegal, or the record after the event and the signals in their order.
pub data Outcome : Type 0 where
  Illegal : Outcome
  Legal : Link → List Signal → Outcome

-- A choice performed: first what the event does by itself, then the cell's actions.
abbrev pub outcome : Link → Meeting → Choice → Outcome
outcome l m illegal = Illegal
outcome l m (does acts next) =
    Legal (with_state next (performed (m.heading.arrives ++ acts) m.param m.number l l))
    (map (signal_of m.param m.number l.mps l.ups l.bsnt.num) (signals acts))

abbrev pub at_meeting : Link → Meeting → Outcome
at_meeting l m = outcome l m (chosen (facts l m) (cell (printed (facts l m) m.heading.row) l.state))

-- CONGESTION AND PROVING (2026-07, for Note 7 of Table 6). "An event that would enter 2/10/3 from another state on a congested link": asked of the link before and
-- after the event's cell.
abbrev pub enters : Link → Link → Bool
enters l next = not (is-2/10/3 l.state) && (is-2/10/3 next.state && next.congested)

-- "All signals of the first cell come before those of the second, each cell in its own order."
abbrev pub behind_these : List Signal → Outcome → Outcome
behind_these first Illegal = Illegal
behind_these first (Legal next second) = Legal next (first ++ second)

-- It "also performs, in the same call, what Table 6 gives for congestion in 2/10/3".
abbrev pub onward : Link → Outcome → Outcome
onward l Illegal = Illegal
onward l (Legal next first) = cond (enters l next) (behind_these first (at_meeting next (meets Local-Congestion))) (Legal next first)

unfoldable pub step_of : Link → Event → Outcome
step_of l e = onward l (at_meeting l (meeting e l.c1))
