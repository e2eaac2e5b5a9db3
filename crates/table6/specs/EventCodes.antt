-- Document 01's codes of the events.
use Rattle.std.specs.Prelude.{ℕ}

-- from the user
abbrev pub MESSAGE-FOR-TRANSMISSION : ℕ
MESSAGE-FOR-TRANSMISSION = 1

abbrev pub EMERGENCY : ℕ
EMERGENCY = 2

abbrev pub EMERGENCY-CEASES : ℕ
EMERGENCY-CEASES = 3

abbrev pub STOP : ℕ
STOP = 4

abbrev pub START : ℕ
START = 5

abbrev pub RETRIEVE-BSNT : ℕ
RETRIEVE-BSNT = 6

abbrev pub RETRIEVAL-REQUEST-AND-FSNC : ℕ
RETRIEVAL-REQUEST-AND-FSNC = 7

abbrev pub FLUSH-BUFFERS : ℕ
FLUSH-BUFFERS = 8

abbrev pub CONTINUE : ℕ
CONTINUE = 9

-- from SSCOP
abbrev pub ESTABLISH-indication : ℕ
ESTABLISH-indication = 16

abbrev pub ESTABLISH-confirm : ℕ
ESTABLISH-confirm = 17

abbrev pub RELEASE-indication : ℕ
RELEASE-indication = 18

abbrev pub RELEASE-confirm : ℕ
RELEASE-confirm = 19

abbrev pub DATA-indication : ℕ
DATA-indication = 20

abbrev pub RESYNC-indication : ℕ
RESYNC-indication = 21

abbrev pub RECOVER-indication : ℕ
RECOVER-indication = 22

abbrev pub UNITDATA-indication : ℕ
UNITDATA-indication = 23

abbrev pub RETRIEVE-indication : ℕ
RETRIEVE-indication = 24

abbrev pub RETRIEVE-COMPLETE-indication : ℕ
RETRIEVE-COMPLETE-indication = 25

-- from layer management
abbrev pub PROVING-UNSUCCESSFUL : ℕ
PROVING-UNSUCCESSFUL = 32

abbrev pub RELEASE : ℕ
RELEASE = 33

abbrev pub OUTAGE : ℕ
OUTAGE = 34

abbrev pub RECOVERED : ℕ
RECOVERED = 35

abbrev pub FORCE-PROVING : ℕ
FORCE-PROVING = 36

abbrev pub FORCE-EMERGENCY : ℕ
FORCE-EMERGENCY = 37

abbrev pub CLEAR-FORCE-MODES : ℕ
CLEAR-FORCE-MODES = 38

abbrev pub CONGESTION : ℕ
CONGESTION = 39

abbrev pub CONGESTION-CEASED : ℕ
CONGESTION-CEASED = 40

-- timers
abbrev pub T1-expired : ℕ
T1-expired = 48

abbrev pub T2-expired : ℕ
T2-expired = 49

abbrev pub T3-expired : ℕ
T3-expired = 50
