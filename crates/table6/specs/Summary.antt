-- What a list of actions does in all to each field of a link: the form in which a cell is stored and handed to the link machine. Nothing here has to be
-- believed: what a step means is said without it, and one law ties the two (link/proofs/Performed.antt).
use Rattle.std.specs.Prelude.{ℕ, Bool, true, false, List, [], ◌∷◌, ◌++◌}
use Rattle.unit.specs.declared.Mps.{Mps}
use Rattle.unit.specs.declared.Ups.{Ups}
use Rattle.table6.specs.declared.State.{State}
use Rattle.table6.specs.Words.{field}
use Rattle.table6.specs.Order.{signals}
use Rattle.table6.specs.Cell.{Timer, T1, T2, T3, Told, Done, Act, tell, alter, Choice, illegal, does}

-- A field is kept, or it takes a value.
pub data Op (A : Type 0) : Type 0 where
  keep : Op A
  put : A → Op A

abbrev pub over : {A : Type 0} → Op A → A → A
over keep old = old
over (put new) old = new

-- C1 is as it was, decided by Table 7, or one less.
pub data Count : Type 0 where
  same decided : Count
  less : Count → Count

pub record Summary : Type 0 where
  pub ins : Op Bool
  pub lpo : Op Bool
  pub mps : Op Mps
  pub ups : Op Ups
  pub t1 : Op Bool
  pub t2 : Op Bool
  pub t3 : Op Bool
  pub c1 : Count
  pub bsnt : Op Bool  -- known, with the number that came, or not retrievable
  pub congested : Op Bool
  pub last : Op ℕ  -- the field of the last release that was sent

abbrev pub still : Summary
still = record { ins = keep; lpo = keep; mps = keep; ups = keep; t1 = keep; t2 = keep; t3 = keep; c1 = same; bsnt = keep; congested = keep; last = keep }

abbrev pub with_ins : Op Bool → Summary → Summary
with_ins x s = record { ins = x; lpo = s.lpo; mps = s.mps; ups = s.ups; t1 = s.t1; t2 = s.t2; t3 = s.t3; c1 = s.c1; bsnt = s.bsnt; congested = s.congested; last = s.last }

abbrev pub with_lpo : Op Bool → Summary → Summary
with_lpo x s = record { ins = s.ins; lpo = x; mps = s.mps; ups = s.ups; t1 = s.t1; t2 = s.t2; t3 = s.t3; c1 = s.c1; bsnt = s.bsnt; congested = s.congested; last = s.last }

abbrev pub with_mps : Op Mps → Summary → Summary
with_mps x s = record { ins = s.ins; lpo = s.lpo; mps = x; ups = s.ups; t1 = s.t1; t2 = s.t2; t3 = s.t3; c1 = s.c1; bsnt = s.bsnt; congested = s.congested; last = s.last }

abbrev pub with_ups : Op Ups → Summary → Summary
with_ups x s = record { ins = s.ins; lpo = s.lpo; mps = s.mps; ups = x; t1 = s.t1; t2 = s.t2; t3 = s.t3; c1 = s.c1; bsnt = s.bsnt; congested = s.congested; last = s.last }

abbrev pub with_c1 : Count → Summary → Summary
with_c1 x s = record { ins = s.ins; lpo = s.lpo; mps = s.mps; ups = s.ups; t1 = s.t1; t2 = s.t2; t3 = s.t3; c1 = x; bsnt = s.bsnt; congested = s.congested; last = s.last }

abbrev pub with_timer : Timer → Bool → Summary → Summary
with_timer T1 x s = record { ins = s.ins; lpo = s.lpo; mps = s.mps; ups = s.ups; t1 = put x; t2 = s.t2; t3 = s.t3; c1 = s.c1; bsnt = s.bsnt; congested = s.congested; last = s.last }
with_timer T2 x s = record { ins = s.ins; lpo = s.lpo; mps = s.mps; ups = s.ups; t1 = s.t1; t2 = put x; t3 = s.t3; c1 = s.c1; bsnt = s.bsnt; congested = s.congested; last = s.last }
with_timer T3 x s = record { ins = s.ins; lpo = s.lpo; mps = s.mps; ups = s.ups; t1 = s.t1; t2 = s.t2; t3 = put x; c1 = s.c1; bsnt = s.bsnt; congested = s.congested; last = s.last }

abbrev pub with_bsnt : Op Bool → Summary → Summary
with_bsnt x s = record { ins = s.ins; lpo = s.lpo; mps = s.mps; ups = s.ups; t1 = s.t1; t2 = s.t2; t3 = s.t3; c1 = s.c1; bsnt = x; congested = s.congested; last = s.last }

abbrev pub with_congested : Op Bool → Summary → Summary
with_congested x s = record { ins = s.ins; lpo = s.lpo; mps = s.mps; ups = s.ups; t1 = s.t1; t2 = s.t2; t3 = s.t3; c1 = s.c1; bsnt = s.bsnt; congested = x; last = s.last }

abbrev pub with_last : Op ℕ → Summary → Summary
with_last x s = record { ins = s.ins; lpo = s.lpo; mps = s.mps; ups = s.ups; t1 = s.t1; t2 = s.t2; t3 = s.t3; c1 = s.c1; bsnt = s.bsnt; congested = s.congested; last = x }

-- A connection comes up: the INS flag is cleared, C1 is decided, and BSNT is not retrievable any more.
abbrev pub up : Summary → Summary
up s = with_ins (put false) (with_c1 decided (with_bsnt (put false) s))

-- One action more.
abbrev pub then_told : Told → Summary → Summary
then_told Told.AAL-RECEIVED-MESSAGE-indication s = s
then_told Told.AAL-LINK-CONGESTED-indication s = s
then_told Told.AAL-LINK-CONGESTION-CEASED-indication s = s
then_told Told.AAL-IN-SERVICE-indication s = s
then_told Told.AAL-OUT-OF-SERVICE-indication s = s
then_told Told.AAL-RETRIEVED-MESSAGES-indication s = s
then_told Told.AAL-RETRIEVAL-COMPLETE-indication s = s
then_told Told.AAL-BSNT-confirm s = s
then_told Told.AAL-BSNT-NOT-RETRIEVABLE-confirm s = s
then_told Told.AA-ESTABLISH-request s = s
then_told Told.AA-ESTABLISH-response s = up s
then_told (Told.AA-RELEASE-request uu) s = with_last (put (field uu)) s
then_told (Told.AA-DATA-request mu) s = s
then_told Told.AA-RECOVER-response s = s
then_told Told.AA-RETRIEVE-request s = s
then_told Told.MAAL-PROVING-indication s = s
then_told Told.MAAL-STOP-PROVING-indication s = s
then_told (Told.MAAL-REPORT-indication a b c) s = s
then_told (Told.Set t) s = with_timer t true s
then_told (Told.Reset t) s = with_timer t false s

abbrev pub then_done : Done → Summary → Summary
then_done Done.Set-UPS=NM s = with_ups (put Ups.Normal) s
then_done Done.Set-UPS=EM s = with_ups (put Ups.Emergency) s
then_done Done.Set-MPS=N s = with_mps (put Mps.Neutral) s
then_done Done.Set-MPS=NM s = with_mps (put Mps.Normal) s
then_done Done.Set-MPS=EM s = with_mps (put Mps.Emergency) s
then_done Done.Set-LPO=0 s = with_lpo (put false) s
then_done Done.Set-LPO=1 s = with_lpo (put true) s
then_done Done.Set-INS-flag s = with_ins (put true) s
then_done Done.Reset-INS-flag s = with_ins (put false) s
then_done Done.Generate-N1 s = s
then_done Done.Set-C1=N1 s = with_c1 decided s
then_done Done.Decrement-C1 s = with_c1 (less s.c1) s
then_done Done.connection-up s = up s
then_done Done.take-BSNT s = with_bsnt (put true) s
then_done (Done.end t) s = with_timer t false s
then_done (Done.congested b) s = with_congested (put b) s

abbrev pub then : Act → Summary → Summary
then (tell a) s = then_told a s
then (alter a) s = then_done a s

abbrev pub summary : List Act → Summary → Summary
summary [] s = s
summary (a ∷ acts) s = summary acts (then a s)

-- A choice, summed up behind what the event does by itself.
pub data Summed : Type 0 where
  refused : Summed
  summed : Summary → List Told → State → Summed

abbrev pub sum : List Act → Choice → Summed
sum arrival illegal = refused
sum arrival (does acts next) = summed (summary (arrival ++ acts) still) (signals acts) next
