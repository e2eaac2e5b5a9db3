-- What the numbers that the code stores stand for. Nothing here has to be believed: the code is proved to hold these numbers, and one computed test
-- shows that they decode to Table 6 (proofs/Stored.antt).
use Rattle.std.specs.Prelude.{ℕ, zero, suc, ◌+◌, ◌-◌, ◌*◌, ◌^◌, ◌/◌, ◌%◌, ◌≡◌, Bool, true, false, cond, not, ◌&&◌, List, [], ◌∷◌, ◌++◌, map, eqb, leb, ltb, get_or, length, Option, Some, None}
use Rattle.std.specs.Int.Bits.{bit_and}
use Rattle.unit.specs.declared.Mps.{Mps}
use Rattle.unit.specs.declared.Ups.{Ups}
use Rattle.unit.specs.Proving.{ups_code}
use Rattle.table6.specs.declared.State.{State}
use Rattle.table6.specs.declared.Facts.{Facts}
use Rattle.table6.specs.declared.Does.{Does}
use Rattle.table6.specs.declared.effects.Alternative.{Alternative}
use Rattle.table6.specs.Words.{–, OOS, PO, INS, NM, ANS, MI, PE, PNS, LR, RR, SR, ALN, CC, CD, SREC, UDR, PDUT, SSCOP-UU, Parameter-Data, 2/4/2, is-2/10/3}
use Rattle.table6.specs.Cell.{T1, T2, T3, Told, Act, tell, Cond, LPO=0, LPO=0&INS=0, LPO=0&INS=1, UU=EM-or-NM, Source=User, BSNT-available, MU>4, holds, cell, chosen}
use Rattle.table6.specs.Order.{signals}
use Rattle.table6.specs.Rows.{printed, Heading, heading}
use Rattle.table6.specs.Summary.{Op, keep, put, over, same, decided, less, Summary, still, with_mps, with_ups, with_c1, with_bsnt, with_congested, Summed, refused, summed, summary, sum}

-- CELLS

abbrev pub place : State → ℕ
place State.S111 = 0
place State.S141 = 1
place State.S212 = 2
place State.S222 = 3
place State.S242 = 4
place State.S2103 = 5
place State.S2104 = 6
place State.S3105 = 7

-- The codes of each row's cells, by place; 0 is Illegal.
abbrev pub codes : List (List ℕ)
codes =
    (0 ∷ 0 ∷ 0 ∷ 0 ∷ 0 ∷ 0 ∷ 0 ∷ 1 ∷ [])  -- AAL-MESSAGE_FOR_TRANSMISSION-request
    ∷ (10 ∷ 10 ∷ 10 ∷ 10 ∷ 10 ∷ 10 ∷ 10 ∷ 0 ∷ [])  -- AAL-EMERGENCY-request
    ∷ (10 ∷ 10 ∷ 10 ∷ 10 ∷ 10 ∷ 10 ∷ 10 ∷ 0 ∷ [])  -- AAL-EMERGENCY_CEASES-request
    ∷ (0 ∷ 0 ∷ 2 ∷ 3 ∷ 4 ∷ 5 ∷ 6 ∷ 7 ∷ [])  -- AAL-STOP-request
    ∷ (8 ∷ 8 ∷ 0 ∷ 0 ∷ 0 ∷ 0 ∷ 0 ∷ 0 ∷ [])  -- AAL-START-request
    ∷ (44 ∷ 44 ∷ 0 ∷ 0 ∷ 0 ∷ 0 ∷ 0 ∷ 0 ∷ [])  -- AAL-RETRIEVE_BSNT-request
    ∷ (9 ∷ 9 ∷ 0 ∷ 0 ∷ 0 ∷ 0 ∷ 0 ∷ 0 ∷ [])  -- AAL-RETRIEVAL_REQUEST_AND_FSNC-request
    ∷ (10 ∷ 10 ∷ 10 ∷ 10 ∷ 10 ∷ 10 ∷ 10 ∷ 10 ∷ [])  -- AAL-FLUSH_BUFFERS-request
    ∷ (10 ∷ 10 ∷ 10 ∷ 10 ∷ 10 ∷ 10 ∷ 10 ∷ 10 ∷ [])  -- AAL-CONTINUE-request
    ∷ (46 ∷ 0 ∷ 58 ∷ 0 ∷ 0 ∷ 0 ∷ 0 ∷ 0 ∷ [])  -- AA-ESTABLISH-indication
    ∷ (0 ∷ 0 ∷ 0 ∷ 56 ∷ 0 ∷ 0 ∷ 0 ∷ 0 ∷ [])  -- AA-ESTABLISH-confirm
    ∷ (0 ∷ 0 ∷ 0 ∷ 50 ∷ 0 ∷ 52 ∷ 50 ∷ 54 ∷ [])  -- AA-RELEASE-indication
    ∷ (0 ∷ 11 ∷ 0 ∷ 0 ∷ 12 ∷ 0 ∷ 0 ∷ 0 ∷ [])  -- AA-RELEASE-confirm
    ∷ (0 ∷ 0 ∷ 0 ∷ 0 ∷ 0 ∷ 13 ∷ 14 ∷ 19 ∷ [])  -- AA-DATA-indication, INS unit
    ∷ (0 ∷ 0 ∷ 0 ∷ 0 ∷ 0 ∷ 10 ∷ 10 ∷ 19 ∷ [])  -- AA-DATA-indication, NM unit
    ∷ (0 ∷ 0 ∷ 0 ∷ 0 ∷ 0 ∷ 10 ∷ 10 ∷ 10 ∷ [])  -- AA-DATA-indication, other unit or short
    ∷ (0 ∷ 0 ∷ 0 ∷ 0 ∷ 0 ∷ 17 ∷ 15 ∷ 16 ∷ [])  -- AA-DATA-indication, long message
    ∷ (0 ∷ 0 ∷ 0 ∷ 0 ∷ 0 ∷ 17 ∷ 18 ∷ 19 ∷ [])  -- AA-RESYNC-indication
    ∷ (0 ∷ 0 ∷ 0 ∷ 0 ∷ 0 ∷ 17 ∷ 20 ∷ 20 ∷ [])  -- AA-RECOVER-indication
    ∷ (21 ∷ 21 ∷ 21 ∷ 21 ∷ 21 ∷ 21 ∷ 21 ∷ 21 ∷ [])  -- AA-UNITDATA-indication
    ∷ (48 ∷ 48 ∷ 0 ∷ 0 ∷ 0 ∷ 0 ∷ 0 ∷ 0 ∷ [])  -- AA-RETRIEVE-indication
    ∷ (22 ∷ 22 ∷ 0 ∷ 0 ∷ 0 ∷ 0 ∷ 0 ∷ 0 ∷ [])  -- AA-RETRIEVE_COMPLETE-indication
    ∷ (0 ∷ 0 ∷ 0 ∷ 0 ∷ 0 ∷ 23 ∷ 0 ∷ 0 ∷ [])  -- MAAL-PROVING_UNSUCCESSFUL-response
    ∷ (10 ∷ 10 ∷ 24 ∷ 25 ∷ 26 ∷ 27 ∷ 25 ∷ 28 ∷ [])  -- MAAL-RELEASE-request
    ∷ (29 ∷ 29 ∷ 29 ∷ 29 ∷ 29 ∷ 29 ∷ 30 ∷ 31 ∷ [])  -- MAAL-LOCAL_PROCESSOR_OUTAGE-request
    ∷ (32 ∷ 32 ∷ 32 ∷ 32 ∷ 32 ∷ 32 ∷ 0 ∷ 0 ∷ [])  -- MAAL-LOCAL_PROCESSOR_RECOVERED-request
    ∷ (10 ∷ 10 ∷ 10 ∷ 10 ∷ 10 ∷ 10 ∷ 10 ∷ 10 ∷ [])  -- MAAL-FORCE_PROVING-request
    ∷ (10 ∷ 10 ∷ 10 ∷ 10 ∷ 10 ∷ 10 ∷ 10 ∷ 10 ∷ [])  -- MAAL-FORCE_EMERGENCY-request
    ∷ (10 ∷ 10 ∷ 10 ∷ 10 ∷ 10 ∷ 10 ∷ 10 ∷ 10 ∷ [])  -- MAAL-CLEAR_FORCE_MODES-request
    ∷ (10 ∷ 10 ∷ 10 ∷ 10 ∷ 10 ∷ 33 ∷ 34 ∷ 34 ∷ [])  -- Local Congestion
    ∷ (10 ∷ 10 ∷ 10 ∷ 10 ∷ 35 ∷ 0 ∷ 36 ∷ 36 ∷ [])  -- Local Congestion Ceased
    ∷ (0 ∷ 0 ∷ 37 ∷ 0 ∷ 0 ∷ 0 ∷ 0 ∷ 0 ∷ [])  -- T1 expires
    ∷ (0 ∷ 0 ∷ 38 ∷ 39 ∷ 40 ∷ 41 ∷ 42 ∷ 0 ∷ [])  -- T2 expires
    ∷ (0 ∷ 0 ∷ 0 ∷ 0 ∷ 0 ∷ 43 ∷ 0 ∷ 0 ∷ [])  -- T3 expires and C1 > 0
    ∷ (0 ∷ 0 ∷ 0 ∷ 0 ∷ 0 ∷ 60 ∷ 0 ∷ 0 ∷ [])  -- T3 expires and C1 = 0
    ∷ []

abbrev pub no_row : List ℕ
no_row = 0 ∷ 0 ∷ 0 ∷ 0 ∷ 0 ∷ 0 ∷ 0 ∷ 0 ∷ []

unfoldable pub row_of : ℕ → List ℕ
row_of row = get_or codes row no_row

unfoldable pub code_at : ℕ → State → ℕ
code_at row s = get_or (row_of row) (place s) 0

-- NUMBERS

-- What a mask keeps: the state, the timers, the INS flag, LPO, UPS. What becomes 1 stands behind the mask of its kind.
abbrev pub state : ℕ
state = 7 * 8

abbrev pub t1 : ℕ
t1 = 64

abbrev pub t2 : ℕ
t2 = 128

abbrev pub t3 : ℕ
t3 = 256

abbrev pub ins : ℕ
ins = 4096

abbrev pub lpo : ℕ
lpo = 8192

abbrev pub ups : ℕ
ups = 65536

-- What many cells share.
abbrev pub kept : ℕ
kept = state + t1 + t2 + t3 + ins + lpo + ups

abbrev pub released : ℕ
released = kept - state + 1 - ups

abbrev pub out_of_service : ℕ
out_of_service = kept - state - ups

abbrev pub abandoned : ℕ
abandoned = kept - state + 4

abbrev pub awaits : ℕ
awaits = kept - state + 2 - t1 + 8 * t1

abbrev pub proves : ℕ
proves = kept - state + 5 - ins - t3 + 8 * t3

-- some words, by octets from the lowest
abbrev pub octets : List ℕ → ℕ
octets [] = 0
octets (w ∷ ws) = w + 256 * octets ws

-- a release is sent, with the first to the sixth of the fields that the table sends: OOS, PO, ANS, MI, PE, PNS
abbrev pub sends : ℕ → ℕ
sends k = 2 ^ 17 * k

-- what becomes of the link; how many words, and each
abbrev pub number : ℕ → List ℕ → ℕ
number change ws = change + 2 ^ 20 * length ws + 2 ^ 24 * octets ws

-- The number of each code.
abbrev pub numbers : List ℕ
numbers =
    0  -- Illegal
    ∷ number kept (46 ∷ 18 ∷ [])  -- MESSG
    ∷ number (out_of_service - t1 - t2) (19 ∷ 30 ∷ 31 ∷ [])  -- STOP3
    ∷ number (released - t2 + sends 1) (5 ∷ 19 ∷ 31 ∷ [])  -- STOP4
    ∷ number (released - t2) (19 ∷ 31 ∷ [])  -- STOP5
    ∷ number (released - t2 - t3 + sends 1) (5 ∷ 25 ∷ 13 ∷ 31 ∷ 32 ∷ [])  -- STOP6
    ∷ number (released - t2 + sends 1) (5 ∷ 25 ∷ 31 ∷ [])  -- STOP7
    ∷ number (released + sends 1) (5 ∷ 25 ∷ [])  -- STOP8
    ∷ number (kept - state + 3 - t2 + 8 * t2) (40 ∷ 22 ∷ 34 ∷ [])  -- START
    ∷ number kept (37 ∷ [])  -- FSNC_
    ∷ number kept []  -- ALONE
    ∷ number (kept - state + 0) []  -- RCNF2
    ∷ number awaits (33 ∷ [])  -- RCNF5
    ∷ number (kept - ins + 4 * ins) []  -- INS_6
    ∷ number (kept - state + 7 - t2) (1 ∷ 21 ∷ 31 ∷ [])  -- INS_7
    ∷ number (abandoned + sends 5) (9 ∷ 24 ∷ [])  -- LONG7
    ∷ number kept (44 ∷ [])  -- LONG8
    ∷ number (abandoned - t3 + sends 5) (24 ∷ 9 ∷ 13 ∷ 32 ∷ [])  -- PERR6
    ∷ number (abandoned + sends 5) (24 ∷ 9 ∷ [])  -- RSYN7
    ∷ number (released + sends 5) (9 ∷ 2 ∷ 27 ∷ [])  -- PERR8
    ∷ number kept (11 ∷ 16 ∷ [])  -- RECOV
    ∷ number kept (17 ∷ [])  -- UDATA
    ∷ number kept (3 ∷ [])  -- RCOMP
    ∷ number (abandoned - t3 + sends 6) (10 ∷ 32 ∷ [])  -- PFAIL
    ∷ number (out_of_service - t1 - t2) (2 ∷ 30 ∷ 31 ∷ [])  -- MREL3
    ∷ number (released - t2 + sends 4) (8 ∷ 2 ∷ 31 ∷ [])  -- MREL4
    ∷ number (released - t2) (2 ∷ 31 ∷ [])  -- MREL5
    ∷ number (released - t2 - t3 + sends 4) (8 ∷ 2 ∷ 31 ∷ 32 ∷ [])  -- MREL6
    ∷ number (released + sends 4) (8 ∷ 2 ∷ [])  -- MREL8
    ∷ number (kept - lpo + 4 * lpo) []  -- OUTG_
    ∷ number (released - t2 - lpo + 4 * lpo + sends 2) (6 ∷ 2 ∷ 31 ∷ [])  -- OUTG7
    ∷ number (released - lpo + 4 * lpo + sends 2) (6 ∷ 2 ∷ [])  -- OUTG8
    ∷ number (kept - lpo) []  -- RCVRD
    ∷ number (abandoned - t3 + sends 6) (10 ∷ 23 ∷ 13 ∷ 32 ∷ [])  -- CONG6
    ∷ number kept (38 ∷ 15 ∷ [])  -- CONG_
    ∷ number kept (14 ∷ [])  -- CEAS5
    ∷ number kept (0 ∷ 14 ∷ [])  -- CEAS_
    ∷ number (kept - state + 3 - t1) (40 ∷ [])  -- T1EX3
    ∷ number (out_of_service - t1 - t2) (2 ∷ 26 ∷ 30 ∷ [])  -- T2EX3
    ∷ number (released - t2 + sends 3) (7 ∷ 2 ∷ 26 ∷ [])  -- T2EX4
    ∷ number (released - t2) (2 ∷ 20 ∷ [])  -- T2EX5
    ∷ number (released - t2 - t3 + sends 3) (26 ∷ 13 ∷ 2 ∷ 7 ∷ 32 ∷ [])  -- T2EX6
    ∷ number (released - t2 + sends 3) (26 ∷ 2 ∷ 7 ∷ [])  -- T2EX7
    ∷ number (kept - t3 + 8 * t3) (42 ∷ 35 ∷ [])  -- T3PRV
    ∷ number kept (36 ∷ [])  -- BSNT_
    ∷ number kept (4 ∷ [])  -- BSNTN
    ∷ number (kept + sends 2) (6 ∷ [])  -- EIND1
    ∷ number (kept + sends 1) (5 ∷ [])  -- EIN1A
    ∷ number kept (45 ∷ [])  -- RETRV
    ∷ number kept []  -- RETRN
    ∷ number awaits (39 ∷ 33 ∷ [])  -- RIND_
    ∷ number awaits (28 ∷ 33 ∷ [])  -- RINDS
    ∷ number (awaits - t3) (39 ∷ 13 ∷ 32 ∷ 33 ∷ [])  -- RIND6
    ∷ number (awaits - t3) (28 ∷ 13 ∷ 32 ∷ 33 ∷ [])  -- RIN6S
    ∷ number out_of_service (2 ∷ 39 ∷ [])  -- RIND8
    ∷ number out_of_service (2 ∷ 29 ∷ [])  -- RIN8S
    ∷ number proves (12 ∷ 35 ∷ [])  -- ECNF4
    ∷ number (abandoned - ins + sends 5) (9 ∷ 24 ∷ [])  -- ECN4N
    ∷ number (proves - t1) (41 ∷ 12 ∷ 30 ∷ 35 ∷ [])  -- EIND3
    ∷ number (kept + sends 5) (9 ∷ 24 ∷ [])  -- EIN3N
    ∷ number (released - t2 - t3 + sends 2) (6 ∷ 2 ∷ 25 ∷ 13 ∷ 31 ∷ [])  -- T3END
    ∷ number (kept - state + 7 - t2 - t3) (13 ∷ 43 ∷ 21 ∷ 1 ∷ 31 ∷ [])  -- T3INS
    ∷ number (kept - state + 6 - t3) (13 ∷ 43 ∷ [])  -- T3RDY
    ∷ 2 ^ 20 * 15  -- no cell's
    ∷ []

unfoldable pub number_at : ℕ → ℕ
number_at c = get_or numbers c 0

-- What the two codes do that lead to 2/10/3, and congestion there behind them: how many words, and the words by themselves.
abbrev pub confirmed : ℕ
confirmed = abandoned - ins - t3 + sends 6 + 2 ^ 20 * 6

abbrev pub confirmed_words : ℕ
confirmed_words = octets (12 ∷ 35 ∷ 10 ∷ 23 ∷ 13 ∷ 32 ∷ [])

abbrev pub indicated : ℕ
indicated = abandoned - ins - t3 - t1 + sends 6 + 2 ^ 20 * 8

abbrev pub indicated_words : ℕ
indicated_words = octets (41 ∷ 12 ∷ 30 ∷ 35 ∷ 10 ∷ 23 ∷ 13 ∷ 32 ∷ [])

-- WHAT A NUMBER DOES, BY MASKS

abbrev pub state_at : ℕ → State
state_at x =
    get_or (State.S111 ∷ State.S141 ∷ State.S212 ∷ State.S222 ∷ State.S242 ∷ State.S2103 ∷ State.S2104 ∷ []) (x % 8) State.S3105

abbrev pub bit_of : Bool → ℕ
bit_of b = cond b 1 0

abbrev pub state_after : ℕ → State → State
state_after n s = state_at (bit_and (place s) (n / 8 % 8) + n % 8)

abbrev pub timers_after : ℕ → Bool → Bool → Bool → ℕ
timers_after n a b c = bit_and (bit_of a + 2 * bit_of b + 4 * bit_of c) (n / 64 % 8) + n / 512 % 8

abbrev pub flags_after : ℕ → Bool → Bool → ℕ
flags_after n a b = bit_and (bit_of a + 2 * bit_of b) (n / 4096 % 4) + n / 16384 % 4

abbrev pub ups_after : ℕ → Ups → Ups
ups_after n u = get_or (Ups.Normal ∷ []) (bit_and (ups_code u) (n / 65536 % 2)) Ups.Emergency

-- WHAT IT MEANS

-- kept, or else 0 or 1
abbrev pub flag_op : ℕ → ℕ → Op Bool
flag_op k x = cond (eqb k 1) keep (put (eqb x 1))

abbrev pub state_op : ℕ → Op State
state_op n = cond (eqb (n / 8 % 8) 7) keep (put (state_at (n % 8)))

abbrev pub ups_op : ℕ → Op Ups
ups_op n = cond (eqb (n / 65536 % 2) 1) keep (put Ups.Normal)

-- which of the six fields a number sends, 0 if none, and the field
abbrev pub sent_by : ℕ → ℕ
sent_by n = n / 2 ^ 17 % 8

abbrev pub field_sent : ℕ → ℕ
field_sent k = cond (ltb k 3) k (k + 4)

abbrev pub last_op : ℕ → Op ℕ
last_op n = cond (eqb (sent_by n) 0) keep (put (field_sent (sent_by n)))

-- What the event of a row does by itself, in whatever state it is accepted.
abbrev pub arrival : ℕ → Summary
arrival row =
    cond (eqb row 1) (with_ups (put Ups.Emergency) still)
    (cond (eqb row 2) (with_ups (put Ups.Normal) still)
    (cond (leb 13 row && leb row 16) (with_bsnt (put true) still)
    (cond (eqb row 26) (with_mps (put Mps.Normal) still)
    (cond (eqb row 27) (with_mps (put Mps.Emergency) still)
    (cond (eqb row 28) (with_mps (put Mps.Neutral) still)
    (cond (eqb row 29) (with_congested (put true) still)
    (cond (eqb row 30) (with_congested (put false) still)
    (cond (eqb row 33) (with_c1 (less same) still) still))))))))

-- one behind the other
abbrev pub behind : {A : Type 0} → Op A → Op A → Op A
behind a keep = a
behind a (put x) = put x

-- What a number does behind that, and a connection that comes up.
abbrev pub changed : Summary → Bool → ℕ → Summary
changed a up n =
    record {
      ins = flag_op (n / 4096 % 2) (n / 16384 % 2);
      lpo = flag_op (n / 8192 % 2) (n / 32768 % 2);
      mps = a.mps;
      ups = behind a.ups (ups_op n);
      t1 = flag_op (n / 64 % 2) (n / 512 % 2);
      t2 = flag_op (n / 128 % 2) (n / 1024 % 2);
      t3 = flag_op (n / 256 % 2) (n / 2048 % 2);
      c1 = cond up decided a.c1;
      bsnt = cond up (put false) a.bsnt;
      congested = a.congested;
      last = last_op n;
    }

-- The masks do what the number means, in every state and with every timer, flag and UPS.
pub record SoundNumber (n : ℕ) : Type 0 where
  pub states : (s : State) → state_after n s ≡ over (state_op n) s
  pub first : (a b c : Bool) → eqb (timers_after n a b c % 2) 1 ≡ over (flag_op (n / 64 % 2) (n / 512 % 2)) a
  pub second : (a b c : Bool) → eqb (timers_after n a b c / 2 % 2) 1 ≡ over (flag_op (n / 128 % 2) (n / 1024 % 2)) b
  pub third : (a b c : Bool) → eqb (timers_after n a b c / 4 % 2) 1 ≡ over (flag_op (n / 256 % 2) (n / 2048 % 2)) c
  pub ins_flag : (a b : Bool) → eqb (flags_after n a b % 2) 1 ≡ over (flag_op (n / 4096 % 2) (n / 16384 % 2)) a
  pub lpo_flag : (a b : Bool) → eqb (flags_after n a b / 2 % 2) 1 ≡ over (flag_op (n / 8192 % 2) (n / 32768 % 2)) b
  pub user : (u : Ups) → ups_after n u ≡ over (ups_op n) u

-- SIGNALS

abbrev pub words : List Told
words =
    Told.AAL-LINK-CONGESTION-CEASED-indication
    ∷ Told.AAL-IN-SERVICE-indication
    ∷ Told.AAL-OUT-OF-SERVICE-indication
    ∷ Told.AAL-RETRIEVAL-COMPLETE-indication
    ∷ Told.AAL-BSNT-NOT-RETRIEVABLE-confirm
    ∷ Told.AA-RELEASE-request OOS
    ∷ Told.AA-RELEASE-request PO
    ∷ Told.AA-RELEASE-request ANS
    ∷ Told.AA-RELEASE-request MI
    ∷ Told.AA-RELEASE-request PE
    ∷ Told.AA-RELEASE-request PNS
    ∷ Told.AA-RECOVER-response
    ∷ Told.MAAL-PROVING-indication
    ∷ Told.MAAL-STOP-PROVING-indication
    ∷ Told.MAAL-REPORT-indication – – CC
    ∷ Told.MAAL-REPORT-indication – – CD
    ∷ Told.MAAL-REPORT-indication – – SREC
    ∷ Told.MAAL-REPORT-indication – – UDR
    ∷ Told.MAAL-REPORT-indication – – PDUT
    ∷ Told.MAAL-REPORT-indication – OOS –
    ∷ Told.MAAL-REPORT-indication – OOS ANS
    ∷ Told.MAAL-REPORT-indication – INS –
    ∷ Told.MAAL-REPORT-indication – ALN –
    ∷ Told.MAAL-REPORT-indication LR – CD
    ∷ Told.MAAL-REPORT-indication LR – PE
    ∷ Told.MAAL-REPORT-indication LR OOS –
    ∷ Told.MAAL-REPORT-indication LR OOS ANS
    ∷ Told.MAAL-REPORT-indication LR OOS PE
    ∷ Told.MAAL-REPORT-indication SR – –
    ∷ Told.MAAL-REPORT-indication SR OOS –
    ∷ Told.Reset T1
    ∷ Told.Reset T2
    ∷ Told.Reset T3
    ∷ Told.Set T1
    ∷ Told.Set T2
    ∷ Told.Set T3
    ∷ Told.AAL-BSNT-confirm
    ∷ Told.AA-RETRIEVE-request
    ∷ Told.AAL-LINK-CONGESTED-indication
    ∷ Told.MAAL-REPORT-indication RR – SSCOP-UU
    ∷ Told.AA-ESTABLISH-request
    ∷ Told.AA-ESTABLISH-response
    ∷ Told.AA-DATA-request NM
    ∷ Told.AA-DATA-request INS
    ∷ Told.AAL-RECEIVED-MESSAGE-indication
    ∷ Told.AAL-RETRIEVED-MESSAGES-indication
    ∷ []

-- the last stands for all from 46 on
abbrev pub word_at : ℕ → Told
word_at w = get_or words w (Told.AA-DATA-request Parameter-Data)

-- f at i and at the n - 1 numbers after it
abbrev pub from {ℓ} : {A : Type ℓ} → (ℕ → A) → ℕ → ℕ → List A
from f i zero = []
from f i (suc n) = f i ∷ from f (suc i) n

-- how many words a number has
abbrev pub word_count : ℕ → ℕ
word_count n = n / 2 ^ 20 % 16

-- the n lowest octets of a number, the lowest first
abbrev pub lowest : ℕ → ℕ → List ℕ
lowest zero r = []
lowest (suc n) r = r % 256 ∷ lowest n (r / 256)

-- what so many words say
abbrev pub said : ℕ → ℕ → List Told
said n ws = map word_at (lowest n ws)

-- CODES

-- What a code does: a number, and whether a connection comes up, or one of two by a condition.
pub data Ask : Type 0 where
  gives : ℕ → Bool → Ask
  asks : Cond → Ask → Ask → Ask

-- the code of the alternative, and whether a connection comes up
abbrev pub picked : Facts → Ask → Alternative
picked f (gives c up) = (c, up)
picked f (asks q y n) = cond (holds q f) (picked f y) (picked f n)

-- From the first code that asks on, two alternatives follow each other, at the end of proving three.
abbrev pub seldom_asks : ℕ → Ask
seldom_asks c =
    cond (ltb c 46) (asks BSNT-available (gives c false) (gives (c + 1) false))
    (cond (ltb c 48) (asks LPO=0 (gives (c + 1) false) (gives c false))
    (asks MU>4 (gives c false) (gives (c + 1) false)))

abbrev pub asking : ℕ → Ask
asking c =
    cond (leb 60 c) (asks LPO=0&INS=0 (gives (c + 2) false) (asks LPO=0&INS=1 (gives (c + 1) false) (gives c false)))
    (cond (leb 58 c) (asks UU=EM-or-NM (gives c true) (gives (c + 1) false))
    (cond (leb 56 c) (asks UU=EM-or-NM (gives c true) (gives (c + 1) true))
    (cond (leb 50 c) (asks Source=User (gives c false) (gives (c + 1) false)) (seldom_asks c))))

unfoldable pub ask_at : ℕ → Ask
ask_at c = cond (ltb c 44) (gives c false) (asking c)

-- a number with its own words
abbrev pub does : ℕ → Bool → Does
does n up = record { number = n; words = n / 2 ^ 24; up = up }

abbrev pub done_by : Alternative → Does
done_by p = does (number_at (p.0 % 64)) p.1

abbrev pub plainly : ℕ → Facts → Option Does
plainly c f = cond (eqb c 0) None (Some (done_by (picked f (ask_at c))))

-- the codes that may lead to 2/10/3, and what they do where the link is congested
abbrev pub leading : ℕ → Bool
leading c = leb 56 c && ltb c 60

abbrev pub gone_on : ℕ → Does
gone_on c =
    cond (ltb c 58) (record { number = confirmed; words = confirmed_words; up = true }) (record { number = indicated; words = indicated_words; up = true })

unfoldable pub met_of : ℕ → Facts → Bool → Option Does
met_of c f congested = cond (eqb c 0) None (Some (cond (congested && (f.uu && leading c)) (gone_on c) (done_by (picked f (ask_at c)))))

-- WHAT THE CODE ANSWERS

-- What the cell of a heading and a state does.
abbrev pub meets : Heading → State → Facts → Summed
meets h state f = sum h.arrives (chosen f (cell (printed f h.row) state))

unfoldable pub met : ℕ → State → Facts → Summed
met row = meets (heading row)

-- What congestion does in 2/10/3, behind a cell that leads there from another state on a congested link (2026-07).
abbrev pub gives_up : List Act
gives_up =
    tell (Told.AA-RELEASE-request PNS) ∷ tell (Told.MAAL-REPORT-indication LR – CD) ∷ tell Told.MAAL-STOP-PROVING-indication ∷ tell (Told.Reset T3) ∷ []

abbrev pub goes_on : Bool → State → Summed → Summed
goes_on congested state refused = refused
goes_on congested state (summed s says next) =
    cond (not (is-2/10/3 state) && (is-2/10/3 next && over s.congested congested))
    (summed (summary gives_up s) (says ++ signals gives_up) 2/4/2) (summed s says next)

abbrev pub met_as : ℕ → State → Option Does → Summed
met_as row state None = refused
met_as row state (Some d) = summed (changed (arrival row) d.up d.number) (said (word_count d.number) d.words) (over (state_op d.number) state)

abbrev pub Sound : Option Does → Type 0
Sound None = Unit {0}
Sound (Some d) = SoundNumber d.number
