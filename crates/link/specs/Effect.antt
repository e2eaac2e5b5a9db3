-- What the actions of Table 6 do to a link's record.
use Rattle.std.specs.Prelude.{ℕ, ◌-◌, ◌≡◌, Bool, true, false, List, [], ◌∷◌}
use Rattle.unit.specs.declared.Mps.{Mps}
use Rattle.unit.specs.declared.Ups.{Ups}
use Rattle.unit.specs.Proving.{asked, table7}
use Rattle.table6.specs.declared.State.{State}
use Rattle.table6.specs.Words as words
use Rattle.table6.specs.Cell.{Timer, T1, T2, T3, Told, Done, Act, tell, alter}
use Rattle.link.specs.declared.Num.{Num}
use Rattle.link.specs.declared.Bsnt.{Bsnt}
use Rattle.link.specs.declared.Link.{Link}
use Rattle.link.specs.Signal.{none}

abbrev pub with_state : State → Link → Link
with_state x l = record { state = x; ins = l.ins; lpo = l.lpo; mps = l.mps; ups = l.ups; t1 = l.t1; t2 = l.t2; t3 = l.t3; bsnt = l.bsnt; c1 = l.c1; n1 = l.n1; congested = l.congested; last = l.last }

abbrev pub with_ins : Bool → Link → Link
with_ins x l = record { state = l.state; ins = x; lpo = l.lpo; mps = l.mps; ups = l.ups; t1 = l.t1; t2 = l.t2; t3 = l.t3; bsnt = l.bsnt; c1 = l.c1; n1 = l.n1; congested = l.congested; last = l.last }

abbrev pub with_lpo : Bool → Link → Link
with_lpo x l = record { state = l.state; ins = l.ins; lpo = x; mps = l.mps; ups = l.ups; t1 = l.t1; t2 = l.t2; t3 = l.t3; bsnt = l.bsnt; c1 = l.c1; n1 = l.n1; congested = l.congested; last = l.last }

abbrev pub with_mps : Mps → Link → Link
with_mps x l = record { state = l.state; ins = l.ins; lpo = l.lpo; mps = x; ups = l.ups; t1 = l.t1; t2 = l.t2; t3 = l.t3; bsnt = l.bsnt; c1 = l.c1; n1 = l.n1; congested = l.congested; last = l.last }

abbrev pub with_ups : Ups → Link → Link
with_ups x l = record { state = l.state; ins = l.ins; lpo = l.lpo; mps = l.mps; ups = x; t1 = l.t1; t2 = l.t2; t3 = l.t3; bsnt = l.bsnt; c1 = l.c1; n1 = l.n1; congested = l.congested; last = l.last }

abbrev pub with_bsnt : Bsnt → Link → Link
with_bsnt x l = record { state = l.state; ins = l.ins; lpo = l.lpo; mps = l.mps; ups = l.ups; t1 = l.t1; t2 = l.t2; t3 = l.t3; bsnt = x; c1 = l.c1; n1 = l.n1; congested = l.congested; last = l.last }

abbrev pub with_c1 : ℕ → Link → Link
with_c1 x l = record { state = l.state; ins = l.ins; lpo = l.lpo; mps = l.mps; ups = l.ups; t1 = l.t1; t2 = l.t2; t3 = l.t3; bsnt = l.bsnt; c1 = x; n1 = l.n1; congested = l.congested; last = l.last }

abbrev pub with_timer : Timer → Bool → Link → Link
with_timer T1 x l = record { state = l.state; ins = l.ins; lpo = l.lpo; mps = l.mps; ups = l.ups; t1 = x; t2 = l.t2; t3 = l.t3; bsnt = l.bsnt; c1 = l.c1; n1 = l.n1; congested = l.congested; last = l.last }
with_timer T2 x l = record { state = l.state; ins = l.ins; lpo = l.lpo; mps = l.mps; ups = l.ups; t1 = l.t1; t2 = x; t3 = l.t3; bsnt = l.bsnt; c1 = l.c1; n1 = l.n1; congested = l.congested; last = l.last }
with_timer T3 x l = record { state = l.state; ins = l.ins; lpo = l.lpo; mps = l.mps; ups = l.ups; t1 = l.t1; t2 = l.t2; t3 = x; bsnt = l.bsnt; c1 = l.c1; n1 = l.n1; congested = l.congested; last = l.last }

abbrev pub with_congested : Bool → Link → Link
with_congested x l = record { state = l.state; ins = l.ins; lpo = l.lpo; mps = l.mps; ups = l.ups; t1 = l.t1; t2 = l.t2; t3 = l.t3; bsnt = l.bsnt; c1 = l.c1; n1 = l.n1; congested = x; last = l.last }

abbrev pub with_last : ℕ → Link → Link
with_last x l = record { state = l.state; ins = l.ins; lpo = l.lpo; mps = l.mps; ups = l.ups; t1 = l.t1; t2 = l.t2; t3 = l.t3; bsnt = l.bsnt; c1 = l.c1; n1 = l.n1; congested = l.congested; last = x }

abbrev pub taken : Num → Bsnt
taken n = record { known = true; num = n }

abbrev pub not_retrievable : Bsnt
not_retrievable = record { known = false; num = none }

-- "BSNT is 0 where not known."
abbrev pub NoneIsZero : Bsnt → Type 0
NoneIsZero b = b.known ≡ false → b.num ≡ none

-- Generate N1: by Table 7, from the peer's field and from MPS and UPS as the event found them.
abbrev pub generated : Link → ℕ → ℕ
generated found field = table7 found.mps found.ups (asked field) found.n1

-- A connection comes up, with the peer's field: the INS flag is cleared, C1 is decided, and BSNT is not retrievable any more.
abbrev pub up : Link → ℕ → Link → Link
up found field l = with_ins false (with_c1 (generated found field) (with_bsnt not_retrievable l))

-- One action, of an event with this field and this number, on the record that the event found and on what has become of it. Telling alters the record
-- only where it brings a connection up, orders a timer or releases: the record keeps "the last release field sent" (2026-07).
abbrev pub telling : Told → ℕ → Link → Link → Link
telling Told.AAL-RECEIVED-MESSAGE-indication field found l = l
telling Told.AAL-LINK-CONGESTED-indication field found l = l
telling Told.AAL-LINK-CONGESTION-CEASED-indication field found l = l
telling Told.AAL-IN-SERVICE-indication field found l = l
telling Told.AAL-OUT-OF-SERVICE-indication field found l = l
telling Told.AAL-RETRIEVED-MESSAGES-indication field found l = l
telling Told.AAL-RETRIEVAL-COMPLETE-indication field found l = l
telling Told.AAL-BSNT-confirm field found l = l
telling Told.AAL-BSNT-NOT-RETRIEVABLE-confirm field found l = l
telling Told.AA-ESTABLISH-request field found l = l
telling Told.AA-ESTABLISH-response field found l = up found field l
telling (Told.AA-RELEASE-request uu) field found l = with_last (words.field uu) l
telling (Told.AA-DATA-request mu) field found l = l
telling Told.AA-RECOVER-response field found l = l
telling Told.AA-RETRIEVE-request field found l = l
telling Told.MAAL-PROVING-indication field found l = l
telling Told.MAAL-STOP-PROVING-indication field found l = l
telling (Told.MAAL-REPORT-indication a b c) field found l = l
telling (Told.Set t) field found l = with_timer t true l
telling (Told.Reset t) field found l = with_timer t false l

abbrev pub altering : Done → ℕ → Num → Link → Link → Link
altering Done.Set-UPS=NM field n found l = with_ups Ups.Normal l
altering Done.Set-UPS=EM field n found l = with_ups Ups.Emergency l
altering Done.Set-MPS=N field n found l = with_mps Mps.Neutral l
altering Done.Set-MPS=NM field n found l = with_mps Mps.Normal l
altering Done.Set-MPS=EM field n found l = with_mps Mps.Emergency l
altering Done.Set-LPO=0 field n found l = with_lpo false l
altering Done.Set-LPO=1 field n found l = with_lpo true l
altering Done.Set-INS-flag field n found l = with_ins true l
altering Done.Reset-INS-flag field n found l = with_ins false l
altering Done.Generate-N1 field n found l = l
altering Done.Set-C1=N1 field n found l = with_c1 (generated found field) l
altering Done.Decrement-C1 field n found l = with_c1 (l.c1 - 1) l
altering Done.connection-up field n found l = up found field l
altering Done.take-BSNT field n found l = with_bsnt (taken n) l
altering (Done.end t) field n found l = with_timer t false l
altering (Done.congested b) field n found l = with_congested b l

abbrev pub effect : Act → ℕ → Num → Link → Link → Link
effect (tell a) field n found l = telling a field found l
effect (alter a) field n found l = altering a field n found l

abbrev pub performed : List Act → ℕ → Num → Link → Link → Link
performed [] field n found l = l
performed (a ∷ acts) field n found l = performed acts field n found (effect a field n found l)
