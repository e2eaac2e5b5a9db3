-- What a cell of Table 6 can say: the signals and actions of Q.2140 in its own words, the conditions, and the next state.
use Rattle.std.specs.Prelude.{Bool, cond, not, ◌&&◌, List, [], ◌∷◌}
use Rattle.table6.specs.declared.State.{State}
use Rattle.table6.specs.declared.Facts.{Facts}
use Rattle.table6.specs.Words.{Abbreviation}

pub data Timer : Type 0 where
  T1 T2 T3 : Timer

-- What is told: signals, and the orders that set and reset a timer.
pub data Told : Type 0 where
  -- to the user
  AAL-RECEIVED-MESSAGE-indication : Told  -- {Parameter Data := MU}
  AAL-LINK-CONGESTED-indication : Told  -- {level}
  AAL-LINK-CONGESTION-CEASED-indication : Told
  AAL-IN-SERVICE-indication : Told
  AAL-OUT-OF-SERVICE-indication : Told
  AAL-RETRIEVED-MESSAGES-indication : Told  -- {Parameter Data := MU}
  AAL-RETRIEVAL-COMPLETE-indication : Told
  AAL-BSNT-confirm : Told  -- {Parameter Data := BSNT}
  AAL-BSNT-NOT-RETRIEVABLE-confirm : Told
  -- to SSCOP
  AA-ESTABLISH-request : Told  -- {SSCOP-UU := NM or EM, BR := No}, by Table 8
  AA-ESTABLISH-response : Told  -- {SSCOP-UU := NM or EM, BR := No}, by Table 8
  AA-RELEASE-request : Abbreviation → Told  -- {SSCOP-UU := ..}
  AA-DATA-request : Abbreviation → Told  -- {MU := ..}
  AA-RECOVER-response : Told
  AA-RETRIEVE-request : Told  -- {RN := Parameter Data}
  -- to layer management
  MAAL-PROVING-indication : Told
  MAAL-STOP-PROVING-indication : Told
  MAAL-REPORT-indication : Abbreviation → Abbreviation → Abbreviation → Told
  -- to a timer
  Set Reset : Timer → Told

-- What is only done to the record: its flags and its counter.
pub data Done : Type 0 where
  Set-UPS=NM Set-UPS=EM : Done
  Set-MPS=N Set-MPS=NM Set-MPS=EM : Done
  Set-LPO=0 Set-LPO=1 : Done
  Set-INS-flag Reset-INS-flag : Done
  Generate-N1 Set-C1=N1 Decrement-C1 : Done
  -- not printed: what an event does by itself, by document 01, and by 2026-07 to the congested flag
  connection-up take-BSNT : Done
  end : Timer → Done
  congested : Bool → Done

pub data Act : Type 0 where
  tell : Told → Act
  alter : Done → Act

pub data Cond : Type 0 where
  LPO=0 LPO=0&INS=0 LPO=0&INS=1 : Cond
  UU=EM-or-NM Source=User : Cond
  BSNT-available MU>4 : Cond

abbrev pub holds : Cond → Facts → Bool
holds LPO=0 f = not f.lpo
holds LPO=0&INS=0 f = not f.lpo && not f.ins
holds LPO=0&INS=1 f = not f.lpo && f.ins
holds UU=EM-or-NM f = f.uu
holds Source=User f = f.user
holds BSNT-available f = f.bsnt
holds MU>4 f = f.long

-- A cell is Illegal, or its actions in order and then the next state, or one of two by a condition. What is told stands before ⨟, what is only done
-- before ⨾.
infixr 20 ◌⨟◌ ◌⨾◌
infix 10 IF◌THEN◌ELSE◌
pub data Cell : Type 0 where
  Illegal : Cell
  to : State → Cell
  ◌⨟◌ : Told → Cell → Cell
  ◌⨾◌ : Done → Cell → Cell
  IF◌THEN◌ELSE◌ : Cond → Cell → Cell → Cell

-- The eight cells of a row, in the order of the paper's columns.
pub record Row : Type 0 where
  pub 1/1/1 : Cell
  pub 1/4/1 : Cell
  pub 2/1/2 : Cell
  pub 2/2/2 : Cell
  pub 2/4/2 : Cell
  pub 3/10/5 : Cell
  pub 2/10/3 : Cell
  pub 2/10/4 : Cell

abbrev pub cell : Row → State → Cell
cell r State.S111 = r.1/1/1
cell r State.S141 = r.1/4/1
cell r State.S212 = r.2/1/2
cell r State.S222 = r.2/2/2
cell r State.S242 = r.2/4/2
cell r State.S2103 = r.2/10/3
cell r State.S2104 = r.2/10/4
cell r State.S3105 = r.3/10/5

-- What the facts choose of a cell: it is Illegal, or these actions, and then this state.
pub data Choice : Type 0 where
  illegal : Choice
  does : List Act → State → Choice

abbrev pub after : Act → Choice → Choice
after a illegal = illegal
after a (does acts next) = does (a ∷ acts) next

abbrev pub chosen : Facts → Cell → Choice
chosen f Illegal = illegal
chosen f (to next) = does [] next
chosen f (a ⨟ c) = after (tell a) (chosen f c)
chosen f (a ⨾ c) = after (alter a) (chosen f c)
chosen f (IF q THEN c ELSE d) = cond (holds q f) (chosen f c) (chosen f d)
