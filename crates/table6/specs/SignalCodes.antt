-- Document 01's codes of the signals, and which of them each has that Table 6 tells.
use Rattle.std.specs.Prelude.{ℕ}
use Rattle.table6.specs.Cell.{T1, T2, T3, Told}

-- to the user
abbrev pub RECEIVED-MESSAGE : ℕ
RECEIVED-MESSAGE = 1

abbrev pub LINK-CONGESTED : ℕ
LINK-CONGESTED = 2

abbrev pub CONGESTION-CEASED : ℕ
CONGESTION-CEASED = 3

abbrev pub IN-SERVICE : ℕ
IN-SERVICE = 4

abbrev pub OUT-OF-SERVICE : ℕ
OUT-OF-SERVICE = 5

abbrev pub RETRIEVED-MESSAGES : ℕ
RETRIEVED-MESSAGES = 6

abbrev pub RETRIEVAL-COMPLETE : ℕ
RETRIEVAL-COMPLETE = 7

abbrev pub BSNT : ℕ
BSNT = 8

abbrev pub BSNT-NOT-RETRIEVABLE : ℕ
BSNT-NOT-RETRIEVABLE = 9

-- to SSCOP
abbrev pub ESTABLISH-request : ℕ
ESTABLISH-request = 16

abbrev pub ESTABLISH-response : ℕ
ESTABLISH-response = 17

abbrev pub RELEASE-request : ℕ
RELEASE-request = 18

abbrev pub DATA-request : ℕ
DATA-request = 19

abbrev pub RECOVER-response : ℕ
RECOVER-response = 20

abbrev pub RETRIEVE-request : ℕ
RETRIEVE-request = 21

-- to layer management
abbrev pub START-PROVING : ℕ
START-PROVING = 32

abbrev pub STOP-PROVING : ℕ
STOP-PROVING = 33

abbrev pub REPORT : ℕ
REPORT = 34

-- timer orders
abbrev pub SET-T1 : ℕ
SET-T1 = 48

abbrev pub SET-T2 : ℕ
SET-T2 = 49

abbrev pub SET-T3 : ℕ
SET-T3 = 50

abbrev pub RESET-T1 : ℕ
RESET-T1 = 56

abbrev pub RESET-T2 : ℕ
RESET-T2 = 57

abbrev pub RESET-T3 : ℕ
RESET-T3 = 58

abbrev pub code : Told → ℕ
code Told.AAL-RECEIVED-MESSAGE-indication = RECEIVED-MESSAGE
code Told.AAL-LINK-CONGESTED-indication = LINK-CONGESTED
code Told.AAL-LINK-CONGESTION-CEASED-indication = CONGESTION-CEASED
code Told.AAL-IN-SERVICE-indication = IN-SERVICE
code Told.AAL-OUT-OF-SERVICE-indication = OUT-OF-SERVICE
code Told.AAL-RETRIEVED-MESSAGES-indication = RETRIEVED-MESSAGES
code Told.AAL-RETRIEVAL-COMPLETE-indication = RETRIEVAL-COMPLETE
code Told.AAL-BSNT-confirm = BSNT
code Told.AAL-BSNT-NOT-RETRIEVABLE-confirm = BSNT-NOT-RETRIEVABLE
code Told.AA-ESTABLISH-request = ESTABLISH-request
code Told.AA-ESTABLISH-response = ESTABLISH-response
code (Told.AA-RELEASE-request uu) = RELEASE-request
code (Told.AA-DATA-request mu) = DATA-request
code Told.AA-RECOVER-response = RECOVER-response
code Told.AA-RETRIEVE-request = RETRIEVE-request
code Told.MAAL-PROVING-indication = START-PROVING
code Told.MAAL-STOP-PROVING-indication = STOP-PROVING
code (Told.MAAL-REPORT-indication a b c) = REPORT
code (Told.Set T1) = SET-T1
code (Told.Set T2) = SET-T2
code (Told.Set T3) = SET-T3
code (Told.Reset T1) = RESET-T1
code (Told.Reset T2) = RESET-T2
code (Told.Reset T3) = RESET-T3
