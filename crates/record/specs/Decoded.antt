-- How the code reads a link's record: state and MPS are decoded and tested at once, the rest is tested behind them, and what a step notes of it is written there. Nothing here has to be believed: `slot_of` in
-- LinkRecord.antt is what the reader is proved against.
use Rattle.std.specs.Prelude.{ℕ, ◌+◌, ◌*◌, Bool, not, ◌&&◌, ◌||◌, List, eqb, leb, set}
use Rattle.unit.specs.Unit.{none_or_status}
use Rattle.link.specs.declared.Note.{Note}
use Rattle.octet.specs.Octets.{at}

-- BSNT with the zero behind it
abbrev pub bsnt_formed : List ℕ → Bool
bsnt_formed r = leb (at r 7) 1 && (eqb (at r 7) 1 || eqb (at r 8) 0 && eqb (at r 9) 0 && eqb (at r 10) 0) && eqb (at r 11) 0

-- all but state and MPS, test by test
unfoldable pub rest_formed : List ℕ → Bool
rest_formed r =
    eqb (at r 0) 76
    && eqb (at r 1) 78
    && leb (at r 3) 3
    && eqb (at r 11) 0
    && leb (at r 6) 7
    && (not (eqb (at r 14) 0) || not (eqb (at r 15) 0))
    && leb (at r 5) 1
    && none_or_status (at r 17)
    && eqb (at r 18 + 256 * at r 19) 0
    && leb (at r 7) 1
    && (eqb (at r 7) 1 || eqb (at r 8) 0 && eqb (at r 9) 0 && eqb (at r 10) 0)
    && leb (at r 16) 1

-- a record with BSNT and the congested flag as they are noted, the number from an event's octets
abbrev pub noted_in : Note → List ℕ → List ℕ → List ℕ
noted_in Note.Nothing r e = r
noted_in Note.Number r e = set (set (set (set r 7 1) 8 (at e 6)) 9 (at e 7)) 10 (at e 8)
noted_in Note.Forgotten r e = set (set (set (set r 7 0) 8 0) 9 0) 10 0
noted_in Note.Ceased r e = set r 16 0
noted_in Note.Congested r e = set r 16 1
