-- The table of twelve of document 01: in each case a record, an event, the record after it and the signals, in document 01's codes.
use Rattle.std.specs.Prelude.{ℕ, ◌≡◌, Bool, true, false, List, [], ◌∷◌, map}
use Rattle.unit.specs.declared.Arrived.{Arrived}
use Rattle.unit.specs.declared.Status.{Status}
use Rattle.unit.specs.declared.Ups.{Ups}
use Rattle.table6.specs.declared.State.{State}
use Rattle.table6.specs.Cell.{T2, T3}
use Rattle.table6.specs.SignalCodes.{IN-SERVICE, OUT-OF-SERVICE, RELEASE-request, DATA-request, RECOVER-response, STOP-PROVING, REPORT, SET-T3, RESET-T2, RESET-T3}
use Rattle.table6.specs.Words.{Abbreviation, –, OOS, PO, INS, ANS, PE, PNS, LR, CD, SREC, field, first, second, third, 1/4/1, 2/4/2, 2/10/3, 2/10/4, 3/10/5}
use Rattle.link.specs.declared.Num.{Num}
use Rattle.link.specs.declared.Carries.{Carries}
use Rattle.link.specs.declared.Link.{Link}
use Rattle.link.specs.declared.Signal.{Signal}
use Rattle.link.specs.declared.Event.{Event}
use Rattle.link.specs.declared.Event.TheVariants as event
use Rattle.link.specs.Effect.{with_state, with_ins, with_lpo, with_ups, with_bsnt, with_c1, with_timer, taken, with_congested, with_last}
use Rattle.link.specs.Signal.{none, num, signal, bare}
use Rattle.link.specs.Step.{Outcome, Legal, step_of}

-- What a case leaves open: the rest of the record, the number and the status of the data that arrived, the level of congestion.
pub record Rest : Type 0 where
  pub link : Link
  pub number : Num
  pub status : ℕ
  pub level : ℕ

pub record Case : Type 0 where
  pub before : Rest → Link
  pub event : Rest → Event
  pub after : Rest → Link
  pub signals : List Signal

abbrev pub in_state : State → Rest → Link
in_state s r = with_state s r.link

-- proving is over: C1 is 0, and LPO and the INS flag are these
abbrev pub proved : Bool → Bool → Rest → Link
proved lpo ins r = with_c1 0 (with_lpo lpo (with_ins ins (in_state 2/10/3 r)))

abbrev pub release : Abbreviation → Signal
release uu = signal RELEASE-request (field uu) none Carries.Nothing

abbrev pub unit : Status → Signal
unit s = signal DATA-request 0 none (Carries.Unit s)

abbrev pub report : Abbreviation → Abbreviation → Abbreviation → Signal
report a b c = signal REPORT 0 (num (first a) (second b) (third c)) Carries.Nothing

abbrev pub twelve : List Case
twelve =
    -- 1
    record {
      before = λ r. with_c1 1 (in_state 2/10/3 r);
      event = λ r. event.T3;
      after = λ r. with_timer T3 true (with_c1 0 (in_state 2/10/3 r));
      signals = unit Status.NM ∷ bare SET-T3 ∷ [];
    }
    -- 2
    ∷ record {
      before = proved false false;
      event = λ r. event.T3;
      after = λ r. with_state 2/10/4 (with_timer T3 false (proved false false r));
      signals = bare STOP-PROVING ∷ unit Status.INS ∷ [];
    }
    -- 3
    ∷ record {
      before = proved false true;
      event = λ r. event.T3;
      after = λ r. with_state 3/10/5 (with_timer T2 false (with_timer T3 false (proved false true r)));
      signals = bare STOP-PROVING ∷ unit Status.INS ∷ report – INS – ∷ bare IN-SERVICE ∷ bare RESET-T2 ∷ [];
    }
    -- 4
    ∷ record {
      before = proved true true;
      event = λ r. event.T3;
      after = λ r. with_state 1/4/1 (with_last (field PO) (with_ups Ups.Normal (with_timer T2 false (with_timer T3 false (proved true true r)))));
      signals = release PO ∷ bare OUT-OF-SERVICE ∷ report LR OOS – ∷ bare STOP-PROVING ∷ bare RESET-T2 ∷ [];
    }
    -- 5
    ∷ record {
      before = in_state 2/10/4;
      event = λ r. event.Data Arrived.INS r.number;
      after = λ r. with_state 3/10/5 (with_timer T2 false (with_bsnt (taken r.number) r.link));
      signals = bare IN-SERVICE ∷ report – INS – ∷ bare RESET-T2 ∷ [];
    }
    -- 6
    ∷ record {
      before = in_state 2/10/4;
      event = λ r. event.Data Arrived.NM r.number;
      after = λ r. with_bsnt (taken r.number) (in_state 2/10/4 r);
      signals = [];
    }
    -- 7
    ∷ record {
      before = in_state 3/10/5;
      event = λ r. event.Data Arrived.INS r.number;
      after = λ r. with_state 1/4/1 (with_last (field PE) (with_ups Ups.Normal (with_bsnt (taken r.number) r.link)));
      signals = release PE ∷ bare OUT-OF-SERVICE ∷ report LR OOS PE ∷ [];
    }
    -- 8
    ∷ record {
      before = in_state 3/10/5;
      event = λ r. event.Data (Arrived.Other r.status) r.number;
      after = λ r. with_bsnt (taken r.number) (in_state 3/10/5 r);
      signals = [];
    }
    -- 9
    ∷ record {
      before = in_state 3/10/5;
      event = λ r. event.Recover;
      after = in_state 3/10/5;
      signals = bare RECOVER-response ∷ report – – SREC ∷ [];
    }
    -- 10
    ∷ record {
      before = in_state 2/10/3;
      event = λ r. event.Recover;
      after = λ r. with_state 2/4/2 (with_last (field PE) (with_timer T3 false r.link));
      signals = report LR – PE ∷ release PE ∷ bare STOP-PROVING ∷ bare RESET-T3 ∷ [];
    }
    -- 11
    ∷ record {
      before = in_state 2/10/3;
      event = λ r. event.Congestion r.level;
      after = λ r. with_state 2/4/2 (with_last (field PNS) (with_congested true (with_timer T3 false r.link)));
      signals = release PNS ∷ report LR – CD ∷ bare STOP-PROVING ∷ bare RESET-T3 ∷ [];
    }
    -- 12
    ∷ record {
      before = in_state 2/4/2;
      event = λ r. event.T2;
      after = λ r. with_state 1/4/1 (with_ups Ups.Normal (with_timer T2 false r.link));
      signals = bare OUT-OF-SERVICE ∷ report – OOS ANS ∷ [];
    }
    ∷ []

abbrev pub happens : Rest → Case → Outcome
happens r c = step_of (c.before r) (c.event r)

abbrev pub due : Rest → Case → Outcome
due r c = Legal (c.after r) c.signals

-- In each of the twelve cases, whatever it leaves open, what happens is what is due.
abbrev pub Twelve : Type 0
Twelve = (r : Rest) → map (happens r) twelve ≡ map (due r) twelve
