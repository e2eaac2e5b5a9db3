-- What holds of every cell of Table 6, as tests that the checker computes over the whole table: how much a cell says, and which cells say the
-- signals that matter most.
use Rattle.std.specs.Prelude.{ℕ, ◌+◌, ◌≡◌, Bool, true, false, cond, not, ◌&&◌, ◌||◌, List, [], ◌∷◌, ◌++◌, eqb, leb, length, take, drop}
use Rattle.table6.specs.declared.State.{State}
use Rattle.table6.specs.Words.{1/1/1, 1/4/1, 2/1/2, 2/4/2, 2/10/3, 3/10/5, NM, INS}
use Rattle.table6.specs.Words as words
use Rattle.table6.specs.Cell.{T2, end, Told, Act, tell, alter, Cell, Illegal, to, ◌⨟◌, ◌⨾◌, IF◌THEN◌ELSE◌, Row, cell}
use Rattle.table6.specs.SignalCodes.{code, IN-SERVICE, OUT-OF-SERVICE, RELEASE-request, ESTABLISH-response, START-PROVING, SET-T1, SET-T2, RESET-T2}
use Rattle.table6.specs.Order.{signals}
use Rattle.table6.specs.Stored.{place}
use Rattle.table6.specs.Table6.{AAL-STOP-request, AAL-START-request, T2-expires}
use Rattle.table6.specs.Rows.{Printed, one, two, Heading, plain, behind, rows}

-- A test of a state, the actions of a cell there and the state after.
abbrev pub Test : Type 0
Test = State → List Act → State → Bool

-- It is passed by every alternative of a cell, behind the actions read so far; of a row; of a row of document 01; of several.
abbrev pub in_cell : (List Act → State → Bool) → List Act → Cell → Bool
in_cell t acts Illegal = true
in_cell t acts (to next) = t acts next
in_cell t acts (a ⨟ c) = in_cell t (acts ++ tell a ∷ []) c
in_cell t acts (a ⨾ c) = in_cell t (acts ++ alter a ∷ []) c
in_cell t acts (IF q THEN c ELSE d) = in_cell t acts c && in_cell t acts d

abbrev pub in_states : (State → Bool) → Bool
in_states g =
    g State.S111 && (g State.S141 && (g State.S212 && (g State.S222 && (g State.S242 && (g State.S2103 && (g State.S2104 && g State.S3105))))))

abbrev pub in_row : Test → List Act → Row → Bool
in_row t acts r = in_states (λ s. in_cell (t s) acts (cell r s))

abbrev pub in_printed : Test → List Act → Printed → Bool
in_printed t acts (one r) = in_row t acts r
in_printed t acts (two q r s) = in_row t acts r && in_row t acts s

-- of several, each behind what its heading begins with
abbrev pub behind_each : Test → (Heading → List Act) → List Heading → Bool
behind_each t begins [] = true
behind_each t begins (h ∷ hs) = in_printed t (begins h) h.row && behind_each t begins hs

abbrev pub in_rows : Test → List Heading → Bool
in_rows t = behind_each t (λ h. [])

abbrev pub Every : Test → Type 0
Every t = in_rows t rows ≡ true

-- The user's STOP, and all rows but it; his START; the expiry of T2.
abbrev pub stop : List Heading
stop = plain AAL-STOP-request ∷ []

abbrev pub but_stop : List Heading
but_stop = take 3 rows ++ drop 4 rows

abbrev pub start : List Heading
start = plain AAL-START-request ∷ []

abbrev pub but_start : List Heading
but_start = take 4 rows ++ drop 5 rows

abbrev pub expiry_of_t2 : List Heading
expiry_of_t2 = behind (end T2) T2-expires ∷ []

abbrev pub but_expiry_of_t2 : List Heading
but_expiry_of_t2 = take 32 rows ++ drop 33 rows

-- It carries the event's own message: one that goes to the user, or data that is no unit.
abbrev pub own_message : Told → Bool
own_message Told.AAL-RECEIVED-MESSAGE-indication = true
own_message Told.AAL-LINK-CONGESTED-indication = false
own_message Told.AAL-LINK-CONGESTION-CEASED-indication = false
own_message Told.AAL-IN-SERVICE-indication = false
own_message Told.AAL-OUT-OF-SERVICE-indication = false
own_message Told.AAL-RETRIEVED-MESSAGES-indication = true
own_message Told.AAL-RETRIEVAL-COMPLETE-indication = false
own_message Told.AAL-BSNT-confirm = false
own_message Told.AAL-BSNT-NOT-RETRIEVABLE-confirm = false
own_message Told.AA-ESTABLISH-request = false
own_message Told.AA-ESTABLISH-response = false
own_message (Told.AA-RELEASE-request uu) = false
own_message (Told.AA-DATA-request mu) = not (words.is mu NM || words.is mu INS)
own_message Told.AA-RECOVER-response = false
own_message Told.AA-RETRIEVE-request = false
own_message Told.MAAL-PROVING-indication = false
own_message Told.MAAL-STOP-PROVING-indication = false
own_message (Told.MAAL-REPORT-indication a b c) = false
own_message (Told.Set t) = false
own_message (Told.Reset t) = false

abbrev pub own_messages : List Told → ℕ
own_messages [] = 0
own_messages (a ∷ others) = cond (own_message a) 1 0 + own_messages others

-- A signal with this code is said.
abbrev pub says : ℕ → List Act → Bool
says c [] = false
says c (tell a ∷ acts) = eqb (code a) c || says c acts
says c (alter a ∷ acts) = says c acts

abbrev pub same : Bool → Bool → Bool
same a b = cond a b (not b)

abbrev pub is : State → State → Bool
is s t = eqb (place s) (place t)

-- AT MOST FIVE: no cell says more signals.
abbrev pub five : Test
five s acts next = leb (length (signals acts)) 5

-- AT MOST ONE MESSAGE: no cell says the event's own message twice.
abbrev pub one_message : Test
one_message s acts next = leb (own_messages (signals acts)) 1

-- IN_SERVICE is said exactly where 3/10/5 is entered.
abbrev pub in_service : Test
in_service s acts next = same (says IN-SERVICE acts) (is next 3/10/5 && not (is s 3/10/5))

-- OUT_OF_SERVICE is said exactly where the link goes out of service, but for the user's own STOP, which never says it.
abbrev pub out : State → Bool
out s = is s 1/1/1 || is s 1/4/1

abbrev pub out_of_service : Test
out_of_service s acts next = same (says OUT-OF-SERVICE acts) (out next && not (out s))

abbrev pub not_told : Test
not_told s acts next = not (says OUT-OF-SERVICE acts)

-- A RELEASE-request is said exactly where SSCOP begins to disconnect; and, where SSCOP is idle, to refuse what a peer wants, the state staying.
abbrev pub disconnecting : State → Bool
disconnecting s = is s 1/4/1 || is s 2/4/2

abbrev pub idle : State → Bool
idle s = is s 1/1/1 || is s 2/1/2

abbrev pub release : Test
release s acts next = cond (idle s) (not (says RELEASE-request acts) || is s next) (same (says RELEASE-request acts) (disconnecting next && not (disconnecting s)))

-- An ESTABLISH-response is said exactly on the way from 2/1/2 to 2/10/3.
abbrev pub response : Test
response s acts next = same (says ESTABLISH-response acts) (is s 2/1/2 && is next 2/10/3)

-- Proving starts exactly where 2/10/3 is entered.
abbrev pub proving : Test
proving s acts next = same (says START-PROVING acts) (is next 2/10/3 && not (is s 2/10/3))

-- T1 is set exactly where 2/1/2 is entered.
abbrev pub t1_set : Test
t1_set s acts next = same (says SET-T1 acts) (is next 2/1/2 && not (is s 2/1/2))

-- T2 is set by START, always, and by nothing else.
abbrev pub t2_set : Test
t2_set s acts next = says SET-T2 acts

abbrev pub t2_not_set : Test
t2_not_set s acts next = not (says SET-T2 acts)

-- T2 is reset exactly where alignment, the states 2/x, is left, but for its own expiry, which always leaves them, out of service.
abbrev pub aligning : State → Bool
aligning s = not (out s || is s 3/10/5)

abbrev pub t2_reset : Test
t2_reset s acts next = same (says RESET-T2 acts) (aligning s && not (aligning next))

abbrev pub given_up : Test
given_up s acts next = aligning s && (out next && (says OUT-OF-SERVICE acts && not (says RESET-T2 acts)))
