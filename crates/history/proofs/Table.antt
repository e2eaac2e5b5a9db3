-- THE TEST OVER TABLE 6, computed: in every cell the marks of the event and of its signals, and what becomes of the record, lead from what a link's state
-- says of its history to what its next state says, also with congestion behind a cell that leads to proving. Beside it the law that turns such a test into what
-- holds of a step. Only `table_ok` depends on what the table contains. Assumes nothing.
use mathlib.Core.Path.{◌≡◌, refl}
use mathlib.Core.Bool.{Bool, true, false, cond, not, ◌&&◌, ◌||◌, beq, false≢true}
use mathlib.Core.List.{List, [], ◌∷◌, ◌++◌, append-nil}
use mathlib.Core.Option.{Option, none, some}
use Prim.Native.Nat.{ℕ, zero, suc}
use lib.Dec.{eqb, leb}
use lib.ListN.{get_or}
use borrow.Author.Tests.{not-true}
use Rattle.unit.specs.declared.Mps.{Mps}
use Rattle.unit.specs.declared.Ups.{Ups}
use Rattle.unit.specs.Proving.{mps_code, ups_code}
use Rattle.table6.specs.declared.State.{State}
use Rattle.table6.specs.declared.Facts.{Facts}
use Rattle.table6.specs.Cell.{Cond, LPO=0, LPO=0&INS=0, LPO=0&INS=1, UU=EM-or-NM, Source=User, BSNT-available, MU>4, holds}
use Rattle.table6.specs.Cell.{Told, Act, tell, alter, Cell, Illegal, to, ◌⨟◌, ◌⨾◌, IF◌THEN◌ELSE◌, Row, cell, Choice, illegal, does, chosen}
use Rattle.table6.specs.Order.{signals}
use Rattle.table6.specs.Rows.{Printed, one, two, printed, Heading, rows, nowhere, heading}
use Rattle.table6.specs.Words.{2/4/2, is-2/10/3}
use Rattle.table6.specs.Summary.{Op, keep, put, over, Count, same, decided, less, Summary, still, summary, summed, sum}
use Rattle.table6.specs.Stored.{gives_up, goes_on}
use Rattle.table6.specs.Every.{in_states}
use Rattle.table6.proofs.Every.{left, right, of_states, Holds, one_more, no_row}
use Rattle.table6.proofs.Unfolded.{every_row}
use Rattle.link.specs.declared.Num.{Num}
use Rattle.link.specs.declared.Link.{Link}
use Rattle.link.specs.declared.Event.{Event}
use Rattle.link.specs.declared.View.{View}
use Rattle.link.specs.declared.Signal.{Signal}
use Rattle.link.specs.Signal as link
use Rattle.link.specs.Signal.{signal_of}
use Rattle.link.specs.Step as machine
use Rattle.link.specs.Stored.{view_of, meeting_of, facts_of}
use Rattle.link.proofs.Performed.{outcome_of, choice_of, by_choice}
use Rattle.history.proofs.Walk.{Base, held, new, Conn, dead, live, Abs, abs, Kind, quiet, stops, confirms, releases, hears, receives, wishes, forces, rule_signal, rule_event}

-- WHAT A STATE SAYS of the history, with the INS flag: no connection; or one on which the INS unit was sent or not, the peer's was received or not, and C1 is
-- known to be 0 or not.
pub data Now : Type 0 where
  down : Now
  on : Bool → Bool → Bool → Now

abbrev pub serving : State → Bool
serving State.S111 = false
serving State.S141 = false
serving State.S212 = false
serving State.S222 = false
serving State.S242 = false
serving State.S2103 = false
serving State.S2104 = false
serving State.S3105 = true

abbrev pub now : State → Bool → Now
now State.S111 flag = down
now State.S141 flag = down
now State.S212 flag = down
now State.S222 flag = down
now State.S242 flag = down
now State.S2103 flag = on false flag false
now State.S2104 flag = on true false true
now State.S3105 flag = on true true true

-- WHAT AN EVENT SAYS: its mark, and whether C1 is 0, whether it is above 0, whether the parameter that the cell sees is the event's own, whether the message is
-- long.
pub record Sort : Type 0 where
  pub mark : Kind
  pub zero : Bool
  pub above : Bool
  pub field : Bool
  pub long : Bool

abbrev pub plain : Kind → Sort
plain k = record { mark = k; zero = false; above = false; field = false; long = false }

abbrev sorts : List Sort
sorts =
    record { mark = quiet; zero = false; above = false; field = false; long = true }  -- MESSAGE_FOR_TRANSMISSION
    ∷ plain (wishes Ups.Emergency)
    ∷ plain (wishes Ups.Normal)
    ∷ plain stops
    ∷ plain quiet  -- START
    ∷ plain quiet  -- RETRIEVE_BSNT
    ∷ plain quiet  -- RETRIEVAL_REQUEST_AND_FSNC
    ∷ plain quiet  -- FLUSH_BUFFERS
    ∷ plain quiet  -- CONTINUE
    ∷ record { mark = quiet; zero = false; above = false; field = true; long = false }  -- ESTABLISH-indication
    ∷ record { mark = confirms; zero = false; above = false; field = true; long = false }
    ∷ plain releases
    ∷ plain quiet  -- RELEASE-confirm
    ∷ plain hears
    ∷ plain receives  -- DATA, NM
    ∷ plain receives  -- DATA, other
    ∷ plain receives  -- DATA, long
    ∷ plain quiet  -- RESYNC
    ∷ plain quiet  -- RECOVER
    ∷ plain quiet  -- UNITDATA
    ∷ plain quiet  -- RETRIEVE
    ∷ plain quiet  -- RETRIEVE_COMPLETE
    ∷ plain quiet  -- PROVING_UNSUCCESSFUL
    ∷ plain quiet  -- RELEASE
    ∷ plain quiet  -- outage
    ∷ plain quiet  -- recovered
    ∷ plain (forces Mps.Normal)
    ∷ plain (forces Mps.Emergency)
    ∷ plain (forces Mps.Neutral)
    ∷ plain quiet  -- congestion
    ∷ plain quiet  -- congestion ceased
    ∷ plain quiet  -- T1
    ∷ plain quiet  -- T2
    ∷ record { mark = quiet; zero = false; above = true; field = false; long = false }  -- T3, C1 > 0
    ∷ record { mark = quiet; zero = true; above = false; field = false; long = false }  -- T3, C1 = 0
    ∷ []

-- THE TEST. Such a test asks of a sort of event, of the state and the INS flag that it finds, and of what it leads to: what becomes of the record, what is told,
-- the next state.
abbrev pub Asks : Type 0
Asks = Sort → State → Bool → Summary → List Told → State → Bool

abbrev pub begin : Now → Conn
begin down = dead
begin (on a g z) = live a g held 0

-- all units have been sent
abbrev pub level : Sort → Now → Bool
level s down = false
level s (on a g z) = z || s.zero

-- the code of what is told and what it carries, which no parameter changes
abbrev pub sign : Told → Signal
sign a = signal_of 0 link.none Mps.Neutral Ups.Normal link.none a

abbrev pub told : Bool → Sort → List Told → Option Abs → Option Abs
told z s [] o = o
told z s (a ∷ others) none = none
told z s (a ∷ others) (some A) = told z s others (rule_signal z s.above s.long (sign a).code (sign a).carries A)

-- a count takes exactly n from C1; it is what Table 7 decides
abbrev pub takes : Count → ℕ → Bool
takes same n = eqb n 0
takes decided n = false
takes (less c) zero = false
takes (less c) (suc n) = takes c n

abbrev pub decides : Count → Bool
decides same = false
decides decided = true
decides (less c) = false

abbrev pub least : Sort → ℕ
least s = cond s.above 1 0

abbrev pub counts : Sort → Count → Base → ℕ → Bool
counts s c held n = takes c n && leb n (least s)
counts s c new n = decides c && (eqb n 0 && s.field)

abbrev pub still_level : Bool → Base → Bool
still_level z held = z
still_level z new = false

abbrev pub same_op : {A : Type 0} → (A → ℕ) → Op A → Op A → Bool
same_op code keep keep = true
same_op code keep (put y) = false
same_op code (put x) keep = false
same_op code (put x) (put y) = eqb (code x) (code y)

abbrev pub fits : Bool → Sort → Count → Conn → Now → Bool
fits z s c dead down = true
fits z s c dead (on a g k) = false
fits z s c (live a g b n) down = false
fits z s c (live a g b n) (on a' g' k) = beq a a' && (beq g g' && (counts s c b n && (not k || still_level z b)))

abbrev pub ends : Bool → Sort → Bool → Summary → State → Option Abs → Bool
ends z s flag r next none = false
ends z s flag r next (some (abs st c u m)) =
    beq st (serving next) && (same_op ups_code u r.ups && (same_op mps_code m r.mps && fits z s r.c1 c (now next (over r.ins flag))))

abbrev pub leads : Asks
leads s st flag r says next =
    ends (level s (now st flag)) s flag r next (told (level s (now st flag)) s says (rule_event s.mark (abs (serving st) (begin (now st flag)) keep keep)))

-- a condition that cannot hold at this INS flag
abbrev never : Cond → Bool → Bool
never LPO=0 flag = false
never LPO=0&INS=0 flag = flag
never LPO=0&INS=1 flag = not flag
never UU=EM-or-NM flag = false
never Source=User flag = false
never BSNT-available flag = false
never MU>4 flag = false

abbrev in_cell : (List Act → State → Bool) → Bool → List Act → Cell → Bool
in_cell t flag acts Illegal = true
in_cell t flag acts (to next) = t acts next
in_cell t flag acts (a ⨟ c) = in_cell t flag (acts ++ tell a ∷ []) c
in_cell t flag acts (a ⨾ c) = in_cell t flag (acts ++ alter a ∷ []) c
in_cell t flag acts (IF q THEN c ELSE d) = cond (never q flag) true (in_cell t flag acts c) && in_cell t flag acts d

-- What a cell is asked: of a sort of event, of the state and the INS flag, of what the event does by itself, and of an alternative.
abbrev pub Test : Type 0
Test = Sort → State → Bool → List Act → List Act → State → Bool

-- A test is put to these, summed up; and where they lead to 2/10/3 from another state, to the same with congestion there behind it, as a congested link goes on.
abbrev pub onward : Asks → Test
onward t s st flag arrives acts next =
    let r = summary (arrives ++ acts) still in
    t s st flag r (signals acts) next && cond (not (is-2/10/3 st) && is-2/10/3 next) (t s st flag (summary gives_up r) (signals acts ++ signals gives_up) 2/4/2) true

abbrev in_row : Test → Sort → State → Bool → List Act → Row → Bool
in_row t s st flag arrives r = in_cell (t s st flag arrives) flag [] (cell r st)

abbrev in_printed : Test → Sort → State → Bool → List Act → Printed → Bool
in_printed t s st flag arrives (one r) = in_row t s st flag arrives r
in_printed t s st flag arrives (two q r w) = in_row t s st flag arrives r && in_row t s st flag arrives w

abbrev in_rows : Test → State → Bool → List Sort → List Heading → Bool
in_rows t st flag [] [] = true
in_rows t st flag [] (h ∷ hs) = false
in_rows t st flag (s ∷ ss) [] = false
in_rows t st flag (s ∷ ss) (h ∷ hs) = in_printed t s st flag h.arrives h.row && in_rows t st flag ss hs

-- It is passed in every cell.
abbrev pub Passes : Test → Type 0
Passes t = in_states (λ st. in_rows t st false sorts rows && in_rows t st true sorts rows) ≡ true

pub table_ok : Passes (onward leads)
unfolding every_row
table_ok = refl

-- FROM THE TEST TO A CHOICE

pub sign_of : (p : ℕ) (n : Num) (m : Mps) (u : Ups) (b : Num) (a : Told) →
    ((signal_of p n m u b a).code ≡ (sign a).code) × ((signal_of p n m u b a).carries ≡ (sign a).carries)
sign_of p n m u b Told.AAL-RECEIVED-MESSAGE-indication = (refl, refl)
sign_of p n m u b Told.AAL-LINK-CONGESTED-indication = (refl, refl)
sign_of p n m u b Told.AAL-LINK-CONGESTION-CEASED-indication = (refl, refl)
sign_of p n m u b Told.AAL-IN-SERVICE-indication = (refl, refl)
sign_of p n m u b Told.AAL-OUT-OF-SERVICE-indication = (refl, refl)
sign_of p n m u b Told.AAL-RETRIEVED-MESSAGES-indication = (refl, refl)
sign_of p n m u b Told.AAL-RETRIEVAL-COMPLETE-indication = (refl, refl)
sign_of p n m u b Told.AAL-BSNT-confirm = (refl, refl)
sign_of p n m u b Told.AAL-BSNT-NOT-RETRIEVABLE-confirm = (refl, refl)
sign_of p n m u b Told.AA-ESTABLISH-request = (refl, refl)
sign_of p n m u b Told.AA-ESTABLISH-response = (refl, refl)
sign_of p n m u b (Told.AA-RELEASE-request uu) = (refl, refl)
sign_of p n m u b (Told.AA-DATA-request x) = (refl, refl)
sign_of p n m u b Told.AA-RECOVER-response = (refl, refl)
sign_of p n m u b Told.AA-RETRIEVE-request = (refl, refl)
sign_of p n m u b Told.MAAL-PROVING-indication = (refl, refl)
sign_of p n m u b Told.MAAL-STOP-PROVING-indication = (refl, refl)
sign_of p n m u b (Told.MAAL-REPORT-indication x y z) = (refl, refl)
sign_of p n m u b (Told.Set t) = (refl, refl)
sign_of p n m u b (Told.Reset t) = (refl, refl)

possible : (q : Cond) (f : Facts) → holds q f ≡ true → never q f.ins ≡ false
possible LPO=0 f h = refl
possible LPO=0&INS=0 f h = not-true f.ins (right (not f.lpo) (not f.ins) h)
possible LPO=0&INS=1 f h = rw (right (not f.lpo) f.ins h)
possible UU=EM-or-NM f h = refl
possible Source=User f h = refl
possible BSNT-available f h = refl
possible MU>4 f h = refl

of_cell : (t : List Act → State → Bool) (acts : List Act) (c : Cell) (f : Facts) → in_cell t f.ins acts c ≡ true → Holds t acts (chosen f c)
of_cell t acts Illegal f h = tt
of_cell t acts (to next) f h = rw append-nil h
of_cell t acts (a ⨟ c) f h = one_more t acts (tell a) (chosen f c) (of_cell t (acts ++ tell a ∷ []) c f h)
of_cell t acts (a ⨾ c) f h = one_more t acts (alter a) (chosen f c) (of_cell t (acts ++ alter a ∷ []) c f h)
of_cell t acts (IF q THEN c ELSE d) f h =
    by (holds q f) refl (of_cell t acts c f) (of_cell t acts d f (right (cond (never q f.ins) true (in_cell t f.ins acts c)) (in_cell t f.ins acts d) h)) where
      by : (b : Bool) → holds q f ≡ b → (in_cell t f.ins acts c ≡ true → Holds t acts (chosen f c)) → Holds t acts (chosen f d) → Holds t acts (cond b (chosen f c) (chosen f d))
      by true e k m = k (rw (possible q f e) at (left (cond (never q f.ins) true (in_cell t f.ins acts c)) (in_cell t f.ins acts d) h))
      by false e k m = m

abbrev pub sort_at : ℕ → Sort
sort_at row = get_or sorts row (plain quiet)

module _ (t : Test) (st : State) (f : Facts) where
  of_printed : (s : Sort) (arrives : List Act) (p : Printed) → in_printed t s st f.ins arrives p ≡ true → Holds (t s st f.ins arrives) [] (chosen f (cell (printed f p) st))
  of_printed s arrives (one r) h = of_cell (t s st f.ins arrives) [] (cell r st) f h
  of_printed s arrives (two q r w) h = by (holds q f) where
    by : (b : Bool) → Holds (t s st f.ins arrives) [] (chosen f (cell (cond b r w) st))
    by true = of_cell (t s st f.ins arrives) [] (cell r st) f (left (in_row t s st f.ins arrives r) (in_row t s st f.ins arrives w) h)
    by false = of_cell (t s st f.ins arrives) [] (cell w st) f (right (in_row t s st f.ins arrives r) (in_row t s st f.ins arrives w) h)

  abbrev At : Sort → Heading → Type 0
  At s h = Holds (t s st f.ins h.arrives) [] (chosen f (cell (printed f h.row) st))

  of_rows : (ss : List Sort) (hs : List Heading) → in_rows t st f.ins ss hs ≡ true → (row : ℕ) → At (get_or ss row (plain quiet)) (get_or hs row nowhere)
  of_rows [] [] h row = rw (no_row f st) tt
  of_rows [] (x ∷ hs) h row = absurd (false≢true h)
  of_rows (s ∷ ss) [] h row = absurd (false≢true h)
  of_rows (s ∷ ss) (x ∷ hs) h zero = of_printed s x.arrives x.row (left (in_printed t s st f.ins x.arrives x.row) (in_rows t st f.ins ss hs) h)
  of_rows (s ∷ ss) (x ∷ hs) h (suc row) = of_rows ss hs (right (in_printed t s st f.ins x.arrives x.row) (in_rows t st f.ins ss hs) h) row

  by_flag : (b : Bool) → in_rows t st false sorts rows && in_rows t st true sorts rows ≡ true → in_rows t st b sorts rows ≡ true
  by_flag false h = left (in_rows t st false sorts rows) (in_rows t st true sorts rows) h
  by_flag true h = right (in_rows t st false sorts rows) (in_rows t st true sorts rows) h

  -- what the facts choose in any row passes
  pub choice_ok : Passes t → (row : ℕ) → At (sort_at row) (heading row)
  choice_ok h row = of_rows sorts rows (by_flag f.ins (of_states (λ st. in_rows t st false sorts rows && in_rows t st true sorts rows) h st)) row

-- AND TO A STEP: what holds where the event is illegal, and of all that passes the test, holds of the step
module _ (t : Asks) (passes : Passes (onward t)) (P : machine.Outcome → Type 0) (l : Link) (e : Event) (no : P machine.Illegal) where
  abbrev seen : View
  seen = view_of e l.c1

  module _ (so : (r : Summary) (says : List Told) (next : State) → t (sort_at seen.0) l.state l.ins r says next ≡ true → P (outcome_of l (meeting_of seen) (summed r says next))) where
    of_chosen : (arrives : List Act) (x : Choice) → Holds (onward t (sort_at seen.0) l.state l.ins arrives) [] x →
        P (outcome_of l (meeting_of seen) (goes_on l.congested l.state (sum arrives x)))
    of_chosen arrives illegal h = no
    of_chosen arrives (does acts next) h = by (not (is-2/10/3 l.state)) (is-2/10/3 next) (over r.congested l.congested) (right (asks r (signals acts) next) _ h) where
      r : Summary
      r = summary (arrives ++ acts) still

      asks : Summary → List Told → State → Bool
      asks = t (sort_at seen.0) l.state l.ins

      alone : P (outcome_of l (meeting_of seen) (summed r (signals acts) next))
      alone = so r (signals acts) next (left (asks r (signals acts) next) _ h)

      by : (a b c : Bool) → cond (a && b) (asks (summary gives_up r) (signals acts ++ signals gives_up) 2/4/2) true ≡ true →
          P (outcome_of l (meeting_of seen) (cond (a && (b && c)) (summed (summary gives_up r) (signals acts ++ signals gives_up) 2/4/2) (summed r (signals acts) next)))
      by true true true k = so (summary gives_up r) (signals acts ++ signals gives_up) 2/4/2 k
      by true true false k = alone
      by true false c k = alone
      by false b c k = alone

    pub by_test : P (machine.step_of l e)
    by_test = by_choice P l e (of_chosen (heading seen.0).arrives (choice_of l seen) (choice_ok (onward t) l.state (facts_of l seen) passes seen.0))
