-- What every step keeps: read off the summary of a cell, and off the tests of all cells for how much each says. Assumes nothing.
use mathlib.Core.Path.{◌≡◌, refl}
use mathlib.Core.Bool.{Bool, true, false, cond, not, ◌&&◌, ◌||◌, true≢false}
use mathlib.Core.List.{List, [], ◌∷◌, ◌++◌, map}
use Prim.Native.Nat.{ℕ, ◌≤◌}
use native.Mathlib.Omega.{arith}
use lib.Dec.{leb}
use lib.ListN.{length}
use borrow.Author.Tests.{leb-true}
use Rattle.std.proofs.lemmas.List.{length-map}
use Rattle.unit.specs.declared.Mps.{Mps}
use Rattle.unit.specs.declared.Ups.{Ups}
use Rattle.unit.specs.declared.Status.{Status}
use Rattle.unit.specs.Unit.{decoded, none_or_status}
use Rattle.unit.specs.Proving.{asked}
use Rattle.unit.proofs.Proving.{at_most}
use Rattle.table6.specs.Words as words
use Rattle.table6.specs.Words.{NM, INS, 2/4/2, is-2/10/3}
use Rattle.table6.specs.declared.State.{State}
use Rattle.table6.specs.Stored.{gives_up, goes_on}
use Rattle.table6.specs.Rows.{Heading, rows}
use Rattle.table6.specs.Cell.{Told, Act, Choice, illegal, does}
use Rattle.table6.specs.Order.{signals}
use Rattle.table6.specs.Summary.{Op, keep, put, over, Count, same, decided, less, Summary, summary, still, summed, sum}
use Rattle.table6.specs.Every.{Test, behind_each, Every, own_message, own_messages}
use Rattle.table6.proofs.Unfolded.{every_row}
use Rattle.table6.proofs.Every.{Holds, left, right, of_heading, of_choice}
use Rattle.link.specs.declared.Num.{Num}
use Rattle.link.specs.declared.Bsnt.{Bsnt}
use Rattle.link.specs.declared.Carries.{Carries}
use Rattle.link.specs.declared.Link.{Link}
use Rattle.link.specs.declared.Signal.{Signal}
use Rattle.link.specs.Effect.{NoneIsZero}
use Rattle.link.specs.Signal.{none, signal_of}
use Rattle.link.specs.Step.{Meeting}
use Rattle.link.specs.Stored.{view_of, meeting_of, facts_of, counted, held}
use Rattle.link.specs.Kept.{messages_in, messages, brings, brought, Keeps, Kept}
use Rattle.link.proofs.Performed.{outcome_of, choice_of, by_choice}

bounded : (c : Count) (field : ℕ) (l : Link) → l.c1 ≤ l.n1 → counted c field l ≤ l.n1
bounded same field l h = h
bounded decided field l h = at_most l.mps l.ups (asked field) l.n1
bounded (less c) field l h = omega (arith, bounded c field l h)

kept_zero : (b : Op Bool) (n : Num) (old : Bsnt) → NoneIsZero old → NoneIsZero (held b n old)
kept_zero keep n old h e = h e
kept_zero (put true) n old h e = absurd (true≢false e)
kept_zero (put false) n old h e = refl

-- WHICH SIGNALS CARRY THE MESSAGE: those that the table's test counts

of_unit : (a b : Bool) → messages_in (cond a (Carries.Unit Status.NM) (cond b (Carries.Unit Status.INS) Carries.Message)) ≡ cond (not (a || b)) 1 0
of_unit true b = refl
of_unit false true = refl
of_unit false false = refl

own_one : (p : ℕ) (n : Num) (mps : Mps) (ups : Ups) (b : Num) (a : Told) → messages_in (signal_of p n mps ups b a).carries ≡ cond (own_message a) 1 0
own_one p n mps ups b (Told.AA-DATA-request mu) = of_unit (words.is mu NM) (words.is mu INS)
own_one p n mps ups b a = refl

own_all : (p : ℕ) (n : Num) (mps : Mps) (ups : Ups) (b : Num) (all : List Told) → messages (map (signal_of p n mps ups b) all) ≡ own_messages all
own_all p n mps ups b [] = refl
own_all p n mps ups b (a ∷ all) = rw (own_one p n mps ups b a, own_all p n mps ups b all)

-- WHICH SIGNALS CARRY ANYTHING: that hangs on what is told alone, and no cell tells two of them

abbrev plainly : Told → Signal
plainly = signal_of 0 none Mps.Neutral Ups.Normal none

brings_one : (p : ℕ) (n : Num) (mps : Mps) (ups : Ups) (b : Num) (a : Told) → brings (signal_of p n mps ups b a) ≡ brings (plainly a)
brings_one p n mps ups b (Told.AA-DATA-request mu) = refl
brings_one p n mps ups b a = refl

brings_all : (p : ℕ) (n : Num) (mps : Mps) (ups : Ups) (b : Num) (all : List Told) → brought (map (signal_of p n mps ups b) all) ≡ brought (map plainly all)
brings_all p n mps ups b [] = refl
brings_all p n mps ups b (a ∷ all) = rw (brings_one p n mps ups b a, brings_all p n mps ups b all)

-- HOW MUCH IS SAID, by one cell, and by one that leads to 2/10/3 with congestion there behind it

abbrev fine : List Told → Bool
fine says = leb (length says) 8 && (leb (own_messages says) 1 && leb (brought (map plainly says)) 1)

abbrev fine_on : Test
fine_on s acts next = fine (signals acts) && cond (not (is-2/10/3 s) && is-2/10/3 next) (fine (signals acts ++ signals gives_up)) true

all_fine : Every fine_on
unfolding every_row
all_fine = refl

-- a field that is sent is a status
abbrev sent_status : Op ℕ → Bool
sent_status keep = true
sent_status (put x) = none_or_status x

abbrev status_sent : Test
status_sent s acts next = sent_status (summary acts still).last

abbrev arriving : Heading → List Act
arriving h = h.arrives

all_statuses : behind_each status_sent arriving rows ≡ true
unfolding every_row decoded
all_statuses = refl

still_status : (o : Op ℕ) (old : ℕ) → sent_status o ≡ true → none_or_status old ≡ true → none_or_status (over o old) ≡ true
still_status keep old h e = e
still_status (put x) old h e = h

-- what holds of a summary and what is said with it
module _ (l : Link) (m : Meeting) where
  after : (s : Summary) (says : List Told) (next : State) → fine says ≡ true → sent_status s.last ≡ true →
      Keeps l (outcome_of l m (summed s says next))
  after s says next f g =
      let say : Told → Signal = signal_of m.param m.number l.mps l.ups l.bsnt.num in
      let rest : leb (own_messages says) 1 && leb (brought (map plainly says)) 1 ≡ true = right (leb (length says) 8) _ f in
      record {
        n1 = refl;
        c1 = bounded s.c1 m.param l;
        bsnt = kept_zero s.bsnt m.number l.bsnt;
        last = still_status s.last l.last g;
        eight = rw (length-map says say) (leb-true (length says) 8 (left (leb (length says) 8) _ f));
        one_message = rw (own_all m.param m.number l.mps l.ups l.bsnt.num says) (leb-true (own_messages says) 1 (left (leb (own_messages says) 1) _ rest));
        one_brought = rw (brings_all m.param m.number l.mps l.ups l.bsnt.num says) (leb-true (brought (map plainly says)) 1 (right (leb (own_messages says) 1) _ rest));
      }

  keeps : (x : Choice) → Holds (fine_on l.state) [] x → Holds (status_sent l.state) m.heading.arrives x →
      Keeps l (outcome_of l m (goes_on l.congested l.state (sum m.heading.arrives x)))
  unfolding decoded
  keeps illegal h g = tt
  keeps (does acts next) h g = by (not (is-2/10/3 l.state)) (is-2/10/3 next) (over s.congested l.congested) (right (fine (signals acts)) _ h) where
    s : Summary
    s = summary (m.heading.arrives ++ acts) still

    by : (a b c : Bool) → cond (a && b) (fine (signals acts ++ signals gives_up)) true ≡ true →
        Keeps l (outcome_of l m (cond (a && (b && c)) (summed (summary gives_up s) (signals acts ++ signals gives_up) 2/4/2) (summed s (signals acts) next)))
    by true true true k = after (summary gives_up s) (signals acts ++ signals gives_up) 2/4/2 k refl
    by true true false k = after s (signals acts) next (left (fine (signals acts)) _ h) g
    by true false c k = after s (signals acts) next (left (fine (signals acts)) _ h) g
    by false b c k = after s (signals acts) next (left (fine (signals acts)) _ h) g

pub kept : Kept
kept l e =
    let v = view_of e l.c1 in
    by_choice (Keeps l) l e
    (keeps l (meeting_of v) (choice_of l v) (of_choice fine_on all_fine v.0 l.state (facts_of l v)) (of_heading status_sent arriving all_statuses v.0 l.state (facts_of l v)))
