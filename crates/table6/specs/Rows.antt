-- The 35 rows of document 01 over the 38 that the paper prints: where the paper has two rows for an event, the peer's field or the source chooses. And
-- what an event does by itself before the cell's actions: a confirm brings a connection up, data gives its number to BSNT, an expiry ends its timer, congestion
-- and its end set and clear the congested flag.
use Rattle.std.specs.Prelude.{ℕ, true, false, cond, List, [], ◌∷◌, get_or}
use Rattle.table6.specs.declared.Facts.{Facts}
use Rattle.table6.specs.Cell.{T1, T2, T3, Done, connection-up, take-BSNT, end, congested, Act, alter, Cond, UU=EM-or-NM, Source=User, holds, Illegal, Row}
use Rattle.table6.specs.Table6 as paper

pub data Printed : Type 0 where
  one : Row → Printed
  two : Cond → Row → Row → Printed

abbrev pub printed : Facts → Printed → Row
printed f (one r) = r
printed f (two q r s) = cond (holds q f) r s

pub record Heading : Type 0 where
  pub arrives : List Act
  pub row : Printed

abbrev pub plain : Row → Heading
plain r = record { arrives = []; row = one r }

abbrev pub behind : Done → Row → Heading
behind a r = record { arrives = alter a ∷ []; row = one r }

abbrev pub AA-ESTABLISH-indication : Heading
AA-ESTABLISH-indication = record { arrives = []; row = two UU=EM-or-NM paper.AA-ESTABLISH-indication-with-EM-NM paper.AA-ESTABLISH-indication-with-others }

abbrev pub AA-ESTABLISH-confirm : Heading
AA-ESTABLISH-confirm = record { arrives = alter connection-up ∷ []; row = two UU=EM-or-NM paper.AA-ESTABLISH-confirm-with-EM-NM paper.AA-ESTABLISH-confirm-with-others }

abbrev pub AA-RELEASE-indication : Heading
AA-RELEASE-indication = record { arrives = []; row = two Source=User paper.AA-RELEASE-indication-from-User paper.AA-RELEASE-indication-from-SSCOP }

-- "A congested flag, set by an accepted 39 and cleared by an accepted 40" (2026-07).
abbrev pub Local-Congestion : Heading
Local-Congestion = behind (congested true) paper.Local-Congestion

abbrev pub Local-Congestion-Ceased : Heading
Local-Congestion-Ceased = behind (congested false) paper.Local-Congestion-Ceased

-- In the order of document 01's event codes.
abbrev pub rows : List Heading
rows =
    plain paper.AAL-MESSAGE-FOR-TRANSMISSION-request
    ∷ plain paper.AAL-EMERGENCY-request
    ∷ plain paper.AAL-EMERGENCY-CEASES-request
    ∷ plain paper.AAL-STOP-request
    ∷ plain paper.AAL-START-request
    ∷ plain paper.AAL-RETRIEVE-BSNT-request
    ∷ plain paper.AAL-RETRIEVAL-REQUEST-AND-FSNC-request
    ∷ plain paper.AAL-FLUSH-BUFFERS-request
    ∷ plain paper.AAL-CONTINUE-request
    ∷ AA-ESTABLISH-indication
    ∷ AA-ESTABLISH-confirm
    ∷ AA-RELEASE-indication
    ∷ plain paper.AA-RELEASE-confirm
    ∷ behind take-BSNT paper.AA-DATA-indication-with-INS
    ∷ behind take-BSNT paper.AA-DATA-indication-with-NM
    ∷ behind take-BSNT paper.AA-DATA-indication-with-other
    ∷ behind take-BSNT paper.AA-DATA-indication-with-MU>4
    ∷ plain paper.AA-RESYNC-indication
    ∷ plain paper.AA-RECOVER-indication
    ∷ plain paper.AA-UNITDATA-indication
    ∷ plain paper.AA-RETRIEVE-indication
    ∷ plain paper.AA-RETRIEVE-COMPLETE-indication
    ∷ plain paper.MAAL-PROVING-UNSUCCESSFUL-response
    ∷ plain paper.MAAL-RELEASE-request
    ∷ plain paper.MAAL-LOCAL-PROCESSOR-OUTAGE-request
    ∷ plain paper.MAAL-LOCAL-PROCESSOR-RECOVERED-request
    ∷ plain paper.MAAL-FORCE-PROVING-request
    ∷ plain paper.MAAL-FORCE-EMERGENCY-request
    ∷ plain paper.MAAL-CLEAR-FORCE-MODES-request
    ∷ Local-Congestion
    ∷ Local-Congestion-Ceased
    ∷ behind (end T1) paper.T1-expires
    ∷ behind (end T2) paper.T2-expires
    ∷ behind (end T3) paper.T3-expires-and-C1>0
    ∷ behind (end T3) paper.T3-expires-and-C1=0
    ∷ []

abbrev pub nowhere : Heading
nowhere =
    plain record { 1/1/1 = Illegal; 1/4/1 = Illegal; 2/1/2 = Illegal; 2/2/2 = Illegal; 2/4/2 = Illegal; 3/10/5 = Illegal; 2/10/3 = Illegal; 2/10/4 = Illegal }

abbrev pub heading : ℕ → Heading
heading row = get_or rows row nowhere
