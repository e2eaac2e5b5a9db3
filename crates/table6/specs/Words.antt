-- The abbreviations of Q.2140, and the number of each at the places where it can stand; the names of the states.
use Rattle.std.specs.Prelude.{ℕ, suc, Bool, true, false, cond, List, [], ◌∷◌, eqb}
use Rattle.unit.specs.declared.Status.{Status}
use Rattle.unit.specs.Unit.{code, statuses}
use Rattle.table6.specs.declared.State.{State}

pub data Abbreviation : Type 0 where
  – OOS PO INS NM EM ANS MI PE PNS LR RR SR ALN CC CD SREC UDR PDUT SSCOP-UU Parameter-Data : Abbreviation

abbrev pub ordinal : Abbreviation → ℕ
ordinal – = 0
ordinal OOS = 1
ordinal PO = 2
ordinal INS = 3
ordinal NM = 4
ordinal EM = 5
ordinal ANS = 6
ordinal MI = 7
ordinal PE = 8
ordinal PNS = 9
ordinal LR = 10
ordinal RR = 11
ordinal SR = 12
ordinal ALN = 13
ordinal CC = 14
ordinal CD = 15
ordinal SREC = 16
ordinal UDR = 17
ordinal PDUT = 18
ordinal SSCOP-UU = 19
ordinal Parameter-Data = 20

abbrev pub is : Abbreviation → Abbreviation → Bool
is a b = eqb (ordinal a) (ordinal b)

-- How many stand before an abbreviation in a list.
abbrev pub place : List Abbreviation → Abbreviation → ℕ
place [] a = 0
place (x ∷ others) a = cond (is x a) 0 (suc (place others a))

-- Its number as a status field, which clause 10 gives.
abbrev pub abbreviation : Status → Abbreviation
abbreviation Status.OOS = OOS
abbreviation Status.PO = PO
abbreviation Status.INS = INS
abbreviation Status.NM = NM
abbreviation Status.EM = EM
abbreviation Status.ANS = ANS
abbreviation Status.MI = MI
abbreviation Status.PE = PE
abbreviation Status.PNS = PNS

abbrev pub coded : List Status → Abbreviation → ℕ
coded [] a = 0
coded (s ∷ others) a = cond (is (abbreviation s) a) (code s) (coded others a)

abbrev pub field : Abbreviation → ℕ
field = coded statuses

-- Its number as the first, second and third value of a REPORT.
abbrev pub first : Abbreviation → ℕ
first = place (– ∷ LR ∷ RR ∷ SR ∷ [])

abbrev pub second : Abbreviation → ℕ
second = place (– ∷ OOS ∷ INS ∷ ALN ∷ [])

abbrev pub third : Abbreviation → ℕ
third = place (– ∷ ANS ∷ CC ∷ CD ∷ PE ∷ SREC ∷ UDR ∷ PDUT ∷ SSCOP-UU ∷ [])

abbrev pub 1/1/1 : State
1/1/1 = State.S111

abbrev pub 1/4/1 : State
1/4/1 = State.S141

abbrev pub 2/1/2 : State
2/1/2 = State.S212

abbrev pub 2/2/2 : State
2/2/2 = State.S222

abbrev pub 2/4/2 : State
2/4/2 = State.S242

abbrev pub 2/10/3 : State
2/10/3 = State.S2103

abbrev pub 2/10/4 : State
2/10/4 = State.S2104

abbrev pub 3/10/5 : State
3/10/5 = State.S3105

-- whether a state is 2/10/3, in which a link is proved
abbrev pub is-2/10/3 : State → Bool
is-2/10/3 State.S111 = false
is-2/10/3 State.S141 = false
is-2/10/3 State.S212 = false
is-2/10/3 State.S222 = false
is-2/10/3 State.S242 = false
is-2/10/3 State.S2103 = true
is-2/10/3 State.S2104 = false
is-2/10/3 State.S3105 = false
