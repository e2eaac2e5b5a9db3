-- Q.2140's Annex A, A.6: what each item but SNSP3 and SNSP4 asks of the SSCF, as theorems over the calls, on octets and after every sequence of calls. docs/PICS.md has the items
-- with their answers.
use Rattle.std.specs.Prelude.{ℕ, ◌+◌, ◌≤◌, ◌≡◌, Bool, true, false, ◌&&◌, ◌||◌, List, [], ◌∷◌, ◌++◌, map, eqb, length, replicate, Option, Some, None}
use Rattle.unit.specs.declared.Status.{Status}
use Rattle.unit.specs.declared.Ups.{Ups}
use Rattle.unit.specs.Unit.{code, unit_of}
use Rattle.unit.specs.Proving.{table7, table8}
use Rattle.table6.specs.declared.State.{State}
use Rattle.table6.specs.Words.{–, OOS, INS, ANS, LR, RR, SR, ALN, PDUT, SSCOP-UU, first, second, third}
use Rattle.table6.specs.Words.{1/1/1, 1/4/1, 2/1/2, 2/2/2, 2/4/2, 2/10/3, 2/10/4, 3/10/5}
use Rattle.table6.specs.EventCodes.{MESSAGE-FOR-TRANSMISSION, STOP, START, ESTABLISH-indication, ESTABLISH-confirm, RELEASE-indication, RELEASE-confirm, DATA-indication}
use Rattle.table6.specs.EventCodes.{T1-expired, T2-expired, T3-expired}
use Rattle.table6.specs.SignalCodes.{RECEIVED-MESSAGE, LINK-CONGESTED, CONGESTION-CEASED, IN-SERVICE, OUT-OF-SERVICE, RETRIEVED-MESSAGES, RETRIEVAL-COMPLETE, BSNT, BSNT-NOT-RETRIEVABLE}
use Rattle.table6.specs.SignalCodes.{ESTABLISH-request, ESTABLISH-response, RELEASE-request, DATA-request, RECOVER-response, RETRIEVE-request}
use Rattle.table6.specs.SignalCodes.{START-PROVING, STOP-PROVING, REPORT, SET-T1, SET-T2, SET-T3, RESET-T1, RESET-T2, RESET-T3}
use Rattle.link.specs.declared.Num.{Num}
use Rattle.link.specs.declared.Carries.{Carries}
use Rattle.link.specs.declared.Link.{Link}
use Rattle.link.specs.declared.Signal.{Signal}
use Rattle.link.specs.Signal.{none, num, signal, bare}
use Rattle.link.specs.Twelve.{release, unit, report}
use Rattle.record.specs.LinkRecord.{link_of}
use Rattle.event.specs.Frame.{message_octets, EV, written, link_at, code_at, message_of}
use Rattle.signal.specs.SignalRecord.{signal_octets}
use Rattle.step.specs.Step.{record_at, output_octets, step_call}
use Rattle.history.specs.Calls.{step, signals_in, World, next, AfterEachCall}
use Rattle.history.specs.History.{history, Connection}

-- TURNS. An event is handed in, and brings signals.
pub record Turn : Type 0 where
  pub event : List ℕ
  pub signals : List Signal

infix 30 ◌⇒◌
abbrev pub ◌⇒◌ : List ℕ → List Signal → Turn
e ⇒ s = record { event = e; signals = s }

-- It happens to a table and an output: the call is accepted, and the records cut out of the output are those of just these signals.
pub record Happens (table output : List ℕ) (x : Turn) : Type 0 where
  pub accepted : (step_call table x.event output).answer.refusal ≡ 0
  pub heard : signals_in (step_call table x.event output) ≡ map (signal_octets (link_at x.event) (message_of x.event)) x.signals

-- what the record of link k holds
abbrev pub link_in : World → ℕ → Link
link_in w k = link_of (record_at w.table k)

-- Turns happen one after the other, each with any output that is as long as a step asks for, and then link k is in a state.
abbrev pub Leads : World → ℕ → List Turn → State → Type 0
Leads w k [] s = (link_in w k).state ≡ s
Leads w k (x ∷ turns) s = (o : List ℕ) → output_octets ≤ length o → Happens w.table o x × Leads (next w (step x.event o)) k turns s

-- After every sequence of calls on a fresh table: where a link is in a state, turns lead it to another.
abbrev pub Brings : State → (World → ℕ → List Turn) → State → Type 0
Brings s turns s' = AfterEachCall (λ w k. (link_in w k).state ≡ s → Leads w k (turns w k) s')

-- Where a link is in a state and is not congested, turns lead it to another. For what brings a connection up: a congested link gives that up in the same call
-- (2026-07, for Note 7 of Table 6).
abbrev pub BringsFree : State → (World → ℕ → List Turn) → State → Type 0
BringsFree s turns s' = AfterEachCall (λ w k. (link_in w k).state ≡ s → (link_in w k).congested ≡ false → Leads w k (turns w k) s')

-- EVENTS for link k
abbrev pub plain : ℕ → ℕ → List ℕ
plain c k = written EV k c 0 none []

-- the peer asks for Normal or Emergency
abbrev pub asking : Ups → ℕ
asking Ups.Normal = code Status.NM
asking Ups.Emergency = code Status.EM

abbrev pub from_peer : ℕ → Ups → ℕ → List ℕ
from_peer c peer k = written EV k c (asking peer) none []

-- the field of a release: a status, or none
abbrev pub coded : Option Status → ℕ
coded (Some s) = code s
coded None = 0

-- the source of a release
pub data Source : Type 0 where
  User SSCOP : Source

abbrev pub sourced : Source → ℕ
sourced Source.User = 0
sourced Source.SSCOP = 1

abbrev pub released : Source → Option Status → ℕ → List ℕ
released s f k = written EV k RELEASE-indication (coded f) (num 0 0 (sourced s)) []

abbrev pub message : List ℕ → ℕ → List ℕ
message m k = written EV k MESSAGE-FOR-TRANSMISSION 0 none m

abbrev pub arriving : List ℕ → Num → ℕ → List ℕ
arriving m n k = written EV k DATA-indication 0 n m

-- SIGNALS
-- with the field that came
abbrev pub report_uu : Option Status → Signal
report_uu f = signal REPORT (coded f) (num (first RR) (second –) (third SSCOP-UU)) Carries.Nothing

-- of a release during alignment, by its source
abbrev pub reported : Source → Option Status → Signal
reported Source.User f = report_uu f
reported Source.SSCOP f = report SR – –

-- with NM or EM by Table 8
abbrev pub request : Link → Signal
request l = signal ESTABLISH-request (code (table8 l.mps l.ups)) none Carries.Nothing

abbrev pub response : Link → Signal
response l = signal ESTABLISH-response (code (table8 l.mps l.ups)) none Carries.Nothing

-- FROM THE CONNECTION INTO SERVICE. Some proving units, an expiry of T3 each.
abbrev pub units : ℕ → ℕ → List Turn
units d k = replicate d (plain T3-expired k ⇒ unit Status.NM ∷ bare SET-T3 ∷ [])

-- The link's own INS unit: the peer's has not come, or it has.
abbrev pub readies : ℕ → Turn
readies k = plain T3-expired k ⇒ bare STOP-PROVING ∷ unit Status.INS ∷ []

abbrev pub completes : ℕ → Turn
completes k = plain T3-expired k ⇒ bare STOP-PROVING ∷ unit Status.INS ∷ report – INS – ∷ bare IN-SERVICE ∷ bare RESET-T2 ∷ []

-- The peer's INS unit: the link's own was sent, or it was not.
abbrev pub joins : Num → ℕ → Turn
joins n k = arriving (unit_of Status.INS) n k ⇒ bare IN-SERVICE ∷ report – INS – ∷ bare RESET-T2 ∷ []

abbrev pub notes : Num → ℕ → Turn
notes n k = arriving (unit_of Status.INS) n k ⇒ []

-- The peer's comes after d units and the link's own, or during proving, after a units and before b.
abbrev pub later : ℕ → Num → ℕ → List Turn
later d n k = units d k ++ readies k ∷ joins n k ∷ []

abbrev pub sooner : ℕ → ℕ → Num → ℕ → List Turn
sooner a b n k = units a k ++ (notes n k ∷ units b k ++ completes k ∷ [])

-- Where a link is in a state, is not congested and LPO is 0: after these turns, and as many units as Table 7 decides, it comes into service either way. n1 is
-- that of the fresh table.
abbrev pub Serves : State → Ups → (World → ℕ → List Turn) → Type 0
Serves s peer turns =
    AfterEachCall (λ w k. (link_in w k).state ≡ s → (link_in w k).congested ≡ false → (link_in w k).lpo ≡ false →
    (n : Num) (a b : ℕ) → a + b ≡ table7 (link_in w k).mps (link_in w k).ups peer w.n1 →
    Leads w k (turns w k ++ later (a + b) n k) 3/10/5 × Leads w k (turns w k ++ sooner a b n k) 3/10/5)

-- THE ITEMS

abbrev pub starts : World → ℕ → Turn
starts w k = plain START k ⇒ request (link_in w k) ∷ report – ALN – ∷ bare SET-T2 ∷ []

abbrev pub answers : Ups → World → ℕ → Turn
answers peer w k = from_peer ESTABLISH-indication peer k ⇒ response (link_in w k) ∷ bare START-PROVING ∷ bare RESET-T1 ∷ bare SET-T3 ∷ []

abbrev pub confirms : Ups → ℕ → Turn
confirms peer k = from_peer ESTABLISH-confirm peer k ⇒ bare START-PROVING ∷ bare SET-T3 ∷ []

-- the connection that was asked for is rejected by the peer, or given up by SSCOP
abbrev pub fails : Source → Option Status → ℕ → Turn
fails s f k = released s f k ⇒ reported s f ∷ bare SET-T1 ∷ []

-- SNPC1. The peer connects while the link waits for its next attempt; and so after a START whose own attempt failed.
pub record SNPC1 : Type 0 where
  pub waiting : (peer : Ups) → Serves 2/1/2 peer (λ w k. answers peer w k ∷ [])
  pub after_start : (peer : Ups) (s : Source) (f : Option Status) → Serves 1/1/1 peer (λ w k. starts w k ∷ fails s f k ∷ answers peer w k ∷ [])

-- SNPC2. The connection that the peer asks for is accepted.
abbrev pub SNPC2 : Type 0
SNPC2 = (peer : Ups) → BringsFree 2/1/2 (λ w k. answers peer w k ∷ []) 2/10/3

-- SNPC3. In service, the far user releases the connection, or SSCOP does.
pub record SNPC3 : Type 0 where
  pub by_far_user : (f : Option Status) → Brings 3/10/5 (λ w k. (released Source.User f k ⇒ bare OUT-OF-SERVICE ∷ report_uu f ∷ []) ∷ []) 1/1/1
  pub by_sscop : (f : Option Status) → Brings 3/10/5 (λ w k. (released Source.SSCOP f k ⇒ bare OUT-OF-SERVICE ∷ report SR OOS – ∷ []) ∷ []) 1/1/1

-- SNPC4. START asks SSCOP for a connection, in both states that take it.
pub record SNPC4 : Type 0 where
  pub idle : Brings 1/1/1 (λ w k. starts w k ∷ []) 2/2/2
  pub disconnecting : Brings 1/4/1 (λ w k. starts w k ∷ []) 2/2/2

-- SNPC5. The connection that the link asked for is confirmed; and so straight after START.
pub record SNPC5 : Type 0 where
  pub asked : (peer : Ups) → Serves 2/2/2 peer (λ w k. confirms peer k ∷ [])
  pub after_start : (peer : Ups) → Serves 1/1/1 peer (λ w k. starts w k ∷ confirms peer k ∷ [])

-- SNPC6. STOP releases a connection that is present, as demand 3 has it.
abbrev pub stops : List Signal → ℕ → Turn
stops rest k = plain STOP k ⇒ release OOS ∷ rest

abbrev pub SNPC6 : Type 0
SNPC6 = AfterEachCall (λ w k. Connection (history w k) → (rest : List Signal) × Leads w k (stops rest k ∷ []) 1/4/1)

-- SNPC6.1. Every signal of a step, on any octets, has one of these codes: none asks SSCOP for a resynchronization.
abbrev pub to_user : List ℕ
to_user = RECEIVED-MESSAGE ∷ LINK-CONGESTED ∷ CONGESTION-CEASED ∷ IN-SERVICE ∷ OUT-OF-SERVICE ∷ RETRIEVED-MESSAGES ∷ RETRIEVAL-COMPLETE ∷ BSNT ∷ BSNT-NOT-RETRIEVABLE ∷ []

abbrev pub to_sscop : List ℕ
to_sscop = ESTABLISH-request ∷ ESTABLISH-response ∷ RELEASE-request ∷ DATA-request ∷ RECOVER-response ∷ RETRIEVE-request ∷ []

abbrev pub to_management : List ℕ
to_management = START-PROVING ∷ STOP-PROVING ∷ REPORT ∷ []

abbrev pub to_timers : List ℕ
to_timers = SET-T1 ∷ SET-T2 ∷ SET-T3 ∷ RESET-T1 ∷ RESET-T2 ∷ RESET-T3 ∷ []

abbrev pub one_of : List ℕ → ℕ → Bool
one_of [] c = false
one_of (x ∷ others) c = eqb c x || one_of others c

abbrev pub every : (ℕ → Bool) → List ℕ → Bool
every p [] = true
every p (c ∷ others) = p c && every p others

abbrev pub SNPC6-1 : Type 0
SNPC6-1 = (t e o : List ℕ) → every (one_of (to_user ++ to_sscop ++ to_management ++ to_timers)) (map code_at (signals_in (step_call t e o))) ≡ true

-- SNPC7. In service, a message that arrives is handed to the user as it is.
abbrev pub SNPC7 : Type 0
SNPC7 =
    (m : List ℕ) (n : Num) → 5 ≤ length m → length m ≤ message_octets →
    Brings 3/10/5 (λ w k. (arriving m n k ⇒ signal RECEIVED-MESSAGE 0 none Carries.Message ∷ []) ∷ []) 3/10/5

-- SNPC8. In service, the user's message is handed to SSCOP as it is.
abbrev pub SNPC8 : Type 0
SNPC8 =
    (m : List ℕ) → 5 ≤ length m → length m ≤ message_octets →
    Brings 3/10/5 (λ w k. (message m k ⇒ signal DATA-request 0 none Carries.Message ∷ report – – PDUT ∷ []) ∷ []) 3/10/5

-- THE TIMERS. The states in which T1 is running, and those in which T2 is: all of alignment.
abbrev pub T1-runs : State → Bool
T1-runs State.S111 = false
T1-runs State.S141 = false
T1-runs State.S212 = true
T1-runs State.S222 = false
T1-runs State.S242 = false
T1-runs State.S2103 = false
T1-runs State.S2104 = false
T1-runs State.S3105 = false

abbrev pub T2-runs : State → Bool
T2-runs State.S111 = false
T2-runs State.S141 = false
T2-runs State.S212 = true
T2-runs State.S222 = true
T2-runs State.S242 = true
T2-runs State.S2103 = true
T2-runs State.S2104 = true
T2-runs State.S3105 = false

-- T1 expires, and a connection is asked for again
abbrev pub retries : Link → ℕ → Turn
retries l k = plain T1-expired k ⇒ request l ∷ []

-- SNSP1. T1 runs exactly in 2/1/2. It is set by each release that leads there, by the far user, by SSCOP or the link's own, and its expiry makes the next
-- attempt, whenever it comes.
pub record SNSP1 : Type 0 where
  pub runs : AfterEachCall (λ w k. (link_in w k).t1 ≡ T1-runs (link_in w k).state)
  pub asked : (s : Source) (f : Option Status) → Brings 2/2/2 (λ w k. fails s f k ∷ retries (link_in w k) k ∷ []) 2/2/2
  pub proving : (s : Source) (f : Option Status) → Brings 2/10/3 (λ w k. (released s f k ⇒ reported s f ∷ bare STOP-PROVING ∷ bare RESET-T3 ∷ bare SET-T1 ∷ []) ∷ retries (link_in w k) k ∷ []) 2/2/2
  pub ready : (s : Source) (f : Option Status) → Brings 2/10/4 (λ w k. fails s f k ∷ retries (link_in w k) k ∷ []) 2/2/2
  pub own : Brings 2/4/2 (λ w k. (plain RELEASE-confirm k ⇒ bare SET-T1 ∷ []) ∷ retries (link_in w k) k ∷ []) 2/2/2
  pub waiting : Brings 2/1/2 (λ w k. retries (link_in w k) k ∷ []) 2/2/2

-- T2 expires, and the link is given up
abbrev pub giving_up : State → List Signal
giving_up State.S111 = []
giving_up State.S141 = []
giving_up State.S212 = bare OUT-OF-SERVICE ∷ report LR OOS ANS ∷ bare RESET-T1 ∷ []
giving_up State.S222 = release ANS ∷ bare OUT-OF-SERVICE ∷ report LR OOS ANS ∷ []
giving_up State.S242 = bare OUT-OF-SERVICE ∷ report – OOS ANS ∷ []
giving_up State.S2103 = report LR OOS ANS ∷ bare STOP-PROVING ∷ bare OUT-OF-SERVICE ∷ release ANS ∷ bare RESET-T3 ∷ []
giving_up State.S2104 = report LR OOS ANS ∷ bare OUT-OF-SERVICE ∷ release ANS ∷ []
giving_up State.S3105 = []

abbrev pub expires : State → ℕ → Turn
expires s k = plain T2-expired k ⇒ giving_up s

-- SNSP2. T2 runs exactly during alignment. It is set by START, and its expiry gives the link up, straight after START and in every state of alignment,
-- whenever it comes.
pub record SNSP2 : Type 0 where
  pub runs : AfterEachCall (λ w k. (link_in w k).t2 ≡ T2-runs (link_in w k).state)
  pub after_start : Brings 1/1/1 (λ w k. starts w k ∷ expires 2/2/2 k ∷ []) 1/4/1
  pub waiting : Brings 2/1/2 (λ w k. expires 2/1/2 k ∷ []) 1/1/1
  pub asked : Brings 2/2/2 (λ w k. expires 2/2/2 k ∷ []) 1/4/1
  pub disconnecting : Brings 2/4/2 (λ w k. expires 2/4/2 k ∷ []) 1/4/1
  pub proving : Brings 2/10/3 (λ w k. expires 2/10/3 k ∷ []) 1/4/1
  pub ready : Brings 2/10/4 (λ w k. expires 2/10/4 k ∷ []) 1/4/1
