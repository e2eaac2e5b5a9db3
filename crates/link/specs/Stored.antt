-- What the code's views, changes and words stand for. Nothing here has to be believed: the promises of the public functions tie it to specs/Step.antt.
use Rattle.std.specs.Prelude.{ℕ, ◌-◌, ◌<◌, ◌≡◌, Bool, true, false, cond, List, map, eqb}
use Rattle.unit.specs.declared.Arrived.{Arrived}
use Rattle.unit.specs.declared.Mps.{Mps}
use Rattle.unit.specs.declared.Ups.{Ups}
use Rattle.table6.specs.declared.Facts.{Facts}
use Rattle.table6.specs.Summary.{Op, keep, put, over, Count, same, decided, less, Summary, still}
use Rattle.table6.specs.Cell.{Told}
use Rattle.table6.specs.Rows.{heading}
use Rattle.table6.specs.Stored.{state_op, arrival, changed, field_sent, said}
use Rattle.link.specs.declared.Num.{Num}
use Rattle.link.specs.declared.Bsnt.{Bsnt}
use Rattle.link.specs.declared.Link.{Link}
use Rattle.link.specs.declared.Event.{Event}
use Rattle.link.specs.declared.Event.TheVariants as event
use Rattle.link.specs.declared.View.{View}
use Rattle.link.specs.declared.Note.{Note}
use Rattle.link.specs.declared.Signal.{Signal}
use Rattle.link.specs.Effect.{with_state, with_bsnt, with_c1, taken, not_retrievable, generated}
use Rattle.link.specs.Signal.{num, none, signal_of}
use Rattle.link.specs.Step.{Meeting, facts}

-- VIEWS

-- The row, the parameter, the number, the source, the length: of an event that brings nothing, a parameter, a number.
abbrev pub bare_view : ℕ → View
bare_view row = (row, 0, none, 0, 0)

abbrev pub with_param : ℕ → ℕ → View
with_param row param = (row, param, none, 0, 0)

abbrev pub with_number : ℕ → Num → View
with_number row number = (row, 0, number, 0, 0)

abbrev pub data_row_of : Arrived → ℕ
data_row_of Arrived.INS = 13
data_row_of Arrived.NM = 14
data_row_of (Arrived.Other status) = 15
data_row_of Arrived.Short = 15
data_row_of Arrived.Long = 16

abbrev pub t3_row_of : ℕ → ℕ
t3_row_of c1 = cond (eqb c1 0) 34 33

abbrev pub view_of : Event → ℕ → View
view_of event.Message c1 = bare_view 0
view_of event.Emergency c1 = bare_view 1
view_of event.EmergencyCeases c1 = bare_view 2
view_of event.Stop c1 = bare_view 3
view_of event.Start c1 = bare_view 4
view_of event.RetrieveBsnt c1 = bare_view 5
view_of (event.Retrieval n) c1 = with_number 6 n
view_of event.FlushBuffers c1 = bare_view 7
view_of event.Continue c1 = bare_view 8
view_of (event.EstablishIndication p) c1 = with_param 9 p
view_of (event.EstablishConfirm p) c1 = with_param 10 p
view_of (event.ReleaseIndication f s) c1 = (11, f, none, s, 0)
view_of event.ReleaseConfirm c1 = bare_view 12
view_of (event.Data a n) c1 = with_number (data_row_of a) n
view_of event.Resync c1 = bare_view 17
view_of event.Recover c1 = bare_view 18
view_of event.UnitData c1 = bare_view 19
view_of (event.Retrieve k) c1 = (20, 0, none, 0, k)
view_of event.RetrieveComplete c1 = bare_view 21
view_of event.ProvingUnsuccessful c1 = bare_view 22
view_of event.Release c1 = bare_view 23
view_of event.Outage c1 = bare_view 24
view_of event.Recovered c1 = bare_view 25
view_of event.ForceProving c1 = bare_view 26
view_of event.ForceEmergency c1 = bare_view 27
view_of event.ClearForceModes c1 = bare_view 28
view_of (event.Congestion p) c1 = with_param 29 p
view_of event.CongestionCeased c1 = bare_view 30
view_of event.T1 c1 = bare_view 31
view_of event.T2 c1 = bare_view 32
view_of event.T3 c1 = bare_view (t3_row_of c1)

-- the number in the octets of an event with this view: of a release its source stands there
abbrev pub number_in : View → Num
number_in v = cond (eqb v.0 11) (num 0 0 v.3) v.2

-- the meeting that a view shows: its names for the five
abbrev pub meeting_of : View → Meeting
meeting_of v = record { heading = heading v.0; param = v.1; number = v.2; source = v.3; len = v.4 }

abbrev pub facts_of : Link → View → Facts
facts_of l v = facts l (meeting_of v)

-- CHANGES

abbrev pub counted : Count → ℕ → Link → ℕ
counted same field l = l.c1
counted decided field l = generated l field
counted (less c) field l = counted c field l - 1

-- BSNT, as it was, with the number that came, or not retrievable
abbrev pub held : Op Bool → Num → Bsnt → Bsnt
held keep n old = old
held (put true) n old = taken n
held (put false) n old = not_retrievable

-- a summary applied, with the event's field and number
abbrev pub summed_up : Summary → ℕ → Num → Link → Link
summed_up s field n l =
    record {
      state = l.state;
      ins = over s.ins l.ins;
      lpo = over s.lpo l.lpo;
      mps = over s.mps l.mps;
      ups = over s.ups l.ups;
      t1 = over s.t1 l.t1;
      t2 = over s.t2 l.t2;
      t3 = over s.t3 l.t3;
      bsnt = held s.bsnt n l.bsnt;
      c1 = counted s.c1 field l;
      n1 = l.n1;
      congested = over s.congested l.congested;
      last = over s.last l.last;
    }

-- what an event does to the link by itself, in whatever state it is accepted
abbrev pub arrived_of : View → Link → Link
arrived_of v l = summed_up (arrival v.0) v.1 v.2 l

-- what a connection that comes up does behind that, with the peer's field, but for the INS flag
abbrev pub risen_of : ℕ → Link → Link
risen_of field l = with_c1 (generated l field) (with_bsnt not_retrievable l)

-- and what a cell does behind that, by its number
abbrev pub applied_of : ℕ → Link → Link
applied_of n l = with_state (over (state_op n) l.state) (summed_up (changed still false n) 0 none l)

-- WHAT IS NOTED of a step: what becomes of BSNT and of the congested flag, and the field that was sent, for a writer that leaves the rest as it is.
abbrev pub bsnt_noted : Note → Num → Bsnt → Bsnt
bsnt_noted Note.Nothing n old = old
bsnt_noted Note.Number n old = taken n
bsnt_noted Note.Forgotten n old = not_retrievable
bsnt_noted Note.Ceased n old = old
bsnt_noted Note.Congested n old = old

abbrev pub flag_noted : Note → Bool → Bool
flag_noted Note.Nothing old = old
flag_noted Note.Number old = old
flag_noted Note.Forgotten old = old
flag_noted Note.Ceased old = false
flag_noted Note.Congested old = true

abbrev pub last_sent : ℕ → ℕ → ℕ
last_sent sent old = cond (eqb sent 0) old (field_sent sent)

pub record Noted (l : Link) (n : Num) (after : Link) (noted : Note) (sent : ℕ) : Type 0 where
  pub n1 : after.n1 ≡ l.n1
  pub bsnt : after.bsnt ≡ bsnt_noted noted n l.bsnt
  pub congested : after.congested ≡ flag_noted noted l.congested
  pub last : after.last ≡ last_sent sent l.last
  pub six : sent < 8

-- what is noted of an event by itself
abbrev pub noted_of : Event → Note
noted_of event.Message = Note.Nothing
noted_of event.Emergency = Note.Nothing
noted_of event.EmergencyCeases = Note.Nothing
noted_of event.Stop = Note.Nothing
noted_of event.Start = Note.Nothing
noted_of event.RetrieveBsnt = Note.Nothing
noted_of (event.Retrieval n) = Note.Nothing
noted_of event.FlushBuffers = Note.Nothing
noted_of event.Continue = Note.Nothing
noted_of (event.EstablishIndication p) = Note.Nothing
noted_of (event.EstablishConfirm p) = Note.Nothing
noted_of (event.ReleaseIndication f s) = Note.Nothing
noted_of event.ReleaseConfirm = Note.Nothing
noted_of (event.Data a n) = Note.Number
noted_of event.Resync = Note.Nothing
noted_of event.Recover = Note.Nothing
noted_of event.UnitData = Note.Nothing
noted_of (event.Retrieve k) = Note.Nothing
noted_of event.RetrieveComplete = Note.Nothing
noted_of event.ProvingUnsuccessful = Note.Nothing
noted_of event.Release = Note.Nothing
noted_of event.Outage = Note.Nothing
noted_of event.Recovered = Note.Nothing
noted_of event.ForceProving = Note.Nothing
noted_of event.ForceEmergency = Note.Nothing
noted_of event.ClearForceModes = Note.Nothing
noted_of (event.Congestion p) = Note.Congested
noted_of event.CongestionCeased = Note.Ceased
noted_of event.T1 = Note.Nothing
noted_of event.T2 = Note.Nothing
noted_of event.T3 = Note.Nothing

-- SIGNALS

-- what the words of a step may take
pub record Given : Type 0 where
  pub param : ℕ
  pub num : Num
  pub mps : Mps
  pub ups : Ups
  pub bsnt : Num

-- a parameter and a number, of the event's octets, and the rest of the link that the step left
abbrev pub given_by : ℕ → Num → Link → Given
given_by param num l = record { param = param; num = num; mps = l.mps; ups = l.ups; bsnt = l.bsnt.num }

-- what is told, with what it may take
abbrev pub meant_by : Given → Told → Signal
meant_by o a = signal_of o.param o.num o.mps o.ups o.bsnt a

-- the signals of a step, by its words
unfoldable pub signals_of : ℕ → ℕ → Given → List Signal
signals_of count words o = map (meant_by o) (said count words)
