-- What signals carry may be taken from the link that a step leaves, and their number from the event's octets: no cell alters what its signals take, and none of a
-- release takes a number. Assumes nothing.
use mathlib.Core.Path.{◌≡◌, refl, sym, ap, ◌∙◌}
use mathlib.Core.Bool.{Bool, true, false, cond, not, ◌&&◌, ◌||◌, true≢false}
use mathlib.Core.List.{List, [], ◌∷◌, ◌++◌, map}
use Prim.Native.Nat.{ℕ}
use lib.Dec.{eqb, ltb}
use borrow.Author.Tests.{eqb-true, ltb-true, ltb-false}
use Rattle.std.proofs.lemmas.List.{map-append}
use Rattle.unit.specs.declared.Mps.{Mps}
use Rattle.unit.specs.declared.Ups.{Ups}
use Rattle.unit.specs.Proving.{table8}
use Rattle.table6.specs.declared.State.{State}
use Rattle.table6.specs.declared.Facts.{Facts}
use Rattle.table6.specs.Cell.{Told, Act, Choice, illegal, does}
use Rattle.table6.specs.SignalCodes.{code, BSNT, ESTABLISH-request, ESTABLISH-response}
use Rattle.table6.specs.Order.{signals}
use Rattle.table6.specs.Rows.{Heading, rows, nowhere, heading}
use Rattle.table6.specs.Summary.{Op, keep, put, over, Summary, still, summary, Summed, refused, summed, sum}
use Rattle.table6.specs.Every.{Test, behind_each}
use Rattle.table6.specs.Stored.{met, gives_up, goes_on}
use Rattle.table6.specs.Words.{2/4/2, is-2/10/3}
use Rattle.table6.proofs.Lists.{alike, past}
use Rattle.table6.proofs.Unfolded.{every_row}
use Rattle.table6.proofs.Stored.{eight, of_eight}
use Rattle.table6.proofs.Every.{Holds, left, right, of_heading}
use Rattle.link.specs.declared.Num.{Num}
use Rattle.link.specs.declared.Bsnt.{Bsnt}
use Rattle.link.specs.declared.Link.{Link}
use Rattle.link.specs.declared.View.{View}
use Rattle.link.specs.declared.Signal.{Signal}
use Rattle.link.specs.Effect.{with_state}
use Rattle.link.specs.Signal.{num, signal_of}
use Rattle.link.specs.Step.{Meeting, Outcome, Illegal, Legal}
use Rattle.link.specs.Stored.{number_in, meeting_of, facts_of, held, summed_up}
use Rattle.link.proofs.Performed.{outcome_of, choice_of}

-- an outcome from a summed-up cell whose signals carry this number, and what the link that is left has
abbrev pub leaving : Link → Meeting → Num → Summed → Outcome
leaving l m n refused = Illegal
leaving l m n (summed s says next) =
    let k = summed_up s m.param m.number l in
    Legal (with_state next k) (map (signal_of m.param n k.mps k.ups k.bsnt.num) says)

-- WHAT IS TAKEN FROM THE LINK

abbrev kept : {A : Type 0} → Op A → Bool
kept keep = true
kept (put x) = false

-- what a signal takes from the link is as it was
abbrev unaltered : Summary → Told → Bool
unaltered s a =
    cond (eqb (code a) ESTABLISH-request || eqb (code a) ESTABLISH-response) (kept s.mps && kept s.ups)
    (cond (eqb (code a) BSNT) (kept s.bsnt) true)

abbrev all_unaltered : Summary → List Told → Bool
all_unaltered s [] = true
all_unaltered s (a ∷ others) = unaltered s a && all_unaltered s others

abbrev takes_unaltered : Test
takes_unaltered s acts next = all_unaltered (summary acts still) (signals acts)

abbrev arriving : Heading → List Act
arriving h = h.arrives

each_cell : behind_each takes_unaltered arriving rows ≡ true
unfolding every_row
each_cell = refl

as_it_was : {A : Type 0} (o : Op A) (x : A) → kept o ≡ true → over o x ≡ x
as_it_was keep x h = refl
as_it_was (put y) x h = absurd (true≢false (sym h))

as_held : (o : Op Bool) (n : Num) (b : Bsnt) → kept o ≡ true → held o n b ≡ b
as_held keep n b h = refl
as_held (put x) n b h = absurd (true≢false (sym h))

module _ (p : ℕ) (n : Num) (l : Link) (s : Summary) where
  abbrev before : Told → Signal
  before = signal_of p n l.mps l.ups l.bsnt.num

  abbrev after : Told → Signal
  after = signal_of p n (over s.mps l.mps) (over s.ups l.ups) (held s.bsnt n l.bsnt).num

  offered : kept s.mps && kept s.ups ≡ true → table8 (over s.mps l.mps) (over s.ups l.ups) ≡ table8 l.mps l.ups
  offered h = rw (as_it_was s.mps l.mps (left (kept s.mps) (kept s.ups) h), as_it_was s.ups l.ups (right (kept s.mps) (kept s.ups) h))

  one_told : (a : Told) → unaltered s a ≡ true → after a ≡ before a
  one_told Told.AAL-BSNT-confirm h = ap (λ (b : Bsnt). signal_of p n l.mps l.ups b.num Told.AAL-BSNT-confirm) (as_held s.bsnt n l.bsnt h)
  one_told Told.AA-ESTABLISH-request h = rw (offered h)
  one_told Told.AA-ESTABLISH-response h = rw (offered h)
  one_told a h = refl

  all_told : (all : List Told) → all_unaltered s all ≡ true → map after all ≡ map before all
  all_told [] h = refl
  all_told (a ∷ all) h =
      let x = one_told a (left (unaltered s a) (all_unaltered s all) h) in
      let y = all_told all (right (unaltered s a) (all_unaltered s all) h) in
      λ i. x i ∷ y i

-- what an event does by itself tells nothing
quiet : (b : Bool) (row : ℕ) (acts : List Act) → ltb row 35 ≡ b → signals ((heading row).arrives ++ acts) ≡ signals acts
quiet true row acts e = alike (λ k. signals ((heading k).arrives ++ acts)) (λ k. signals acts) 35 [] refl row (ltb-true row 35 e)
quiet false row acts e = rw (← past rows row nowhere (ltb-false row 35 e))

from_left : (l : Link) (m : Meeting) (arrives : List Act) (x : Choice) → ((acts : List Act) → signals (arrives ++ acts) ≡ signals acts) → Holds (takes_unaltered l.state) arrives x →
    leaving l m m.number (sum arrives x) ≡ outcome_of l m (sum arrives x)
from_left l m arrives illegal q h = refl
from_left l m arrives (does acts next) q h =
    let s = summary (arrives ++ acts) still in
    ap (Legal (with_state next (summed_up s m.param m.number l))) (all_told m.param m.number l s (signals acts) (rw (q acts) at h))

-- THE NUMBER

abbrev says_of : Summed → List Told
says_of refused = []
says_of (summed s says next) = says

-- of a release no signal takes it
abbrev Unnumbered : Facts → Type 0
Unnumbered f = (p : ℕ) (n n' : Num) (m : Mps) (u : Ups) (b : Num) → eight (λ s. map (signal_of p n m u b) (says_of (met 11 s f))) ≡ eight (λ s. map (signal_of p n' m u b) (says_of (met 11 s f)))

by_source : (x : Bool) (f : Facts) → f.user ≡ x → Unnumbered f
unfolding met every_row
by_source true f e p n n' m u b = rw e
by_source false f e p n n' m u b = rw e

other_number : (l : Link) (m : Meeting) (n n' : Num) (x : Summed) → ((y : Mps) (u : Ups) (b : Num) → map (signal_of m.param n y u b) (says_of x) ≡ map (signal_of m.param n' y u b) (says_of x)) →
    leaving l m n x ≡ leaving l m n' x
other_number l m n n' refused h = refl
other_number l m n n' (summed s says next) h = let k = summed_up s m.param m.number l in ap (Legal (with_state next k)) (h k.mps k.ups k.bsnt.num)

in_octets_lem : (b : Bool) (l : Link) (m : Meeting) (row c : ℕ) (f : Facts) → eqb row 11 ≡ b →
    leaving l m (cond b (num 0 0 c) m.number) (met row l.state f) ≡ leaving l m m.number (met row l.state f)
in_octets_lem true l m row c f e =
    let g : Num → Mps → Ups → Num → State → List Signal = λ n y u b s. map (signal_of m.param n y u b) (says_of (met 11 s f)) in
    rw (eqb-true row 11 e)
    (other_number l m (num 0 0 c) m.number (met 11 l.state f)
    (λ y u b. of_eight (g (num 0 0 c) y u b) (g m.number y u b) (by_source f.user f refl m.param (num 0 0 c) m.number y u b) l.state))
in_octets_lem false l m row c f e = refl

-- BOTH, of what the facts choose in the cell that a view meets
of_cell : (l : Link) (v : View) → leaving l (meeting_of v) (number_in v) (met v.0 l.state (facts_of l v)) ≡ outcome_of l (meeting_of v) (met v.0 l.state (facts_of l v))
unfolding met
of_cell l v =
    in_octets_lem (eqb v.0 11) l (meeting_of v) v.0 v.3 (facts_of l v) refl
    ∙ from_left l (meeting_of v) (heading v.0).arrives (choice_of l v) (λ acts. quiet (ltb v.0 35) v.0 acts refl) (of_heading takes_unaltered arriving each_cell v.0 l.state (facts_of l v))

-- and of what goes on with congestion, whose own signals take nothing
abbrev signals_in : Outcome → List Signal
signals_in Illegal = []
signals_in (Legal next said) = said

goes_on_lem : (b : Bool) (l : Link) (m : Meeting) (n : Num) (x : Summed) → leaving l m n x ≡ outcome_of l m x → leaving l m n (goes_on b l.state x) ≡ outcome_of l m (goes_on b l.state x)
goes_on_lem b l m n refused h = h
goes_on_lem b l m n (summed s says next) h = by (not (is-2/10/3 l.state) && (is-2/10/3 next && over s.congested b)) where
  k : Link
  k = summed_up s m.param m.number l

  by : (z : Bool) → let x = cond z (summed (summary gives_up s) (says ++ signals gives_up) 2/4/2) (summed s says next) in leaving l m n x ≡ outcome_of l m x
  by false = h
  by true =
      ap (Legal (with_state 2/4/2 (summed_up (summary gives_up s) m.param m.number l)))
      (map-append (signal_of m.param n k.mps k.ups k.bsnt.num) says (signals gives_up)
      ∙ ap (λ (first : List Signal). first ++ map (signal_of m.param n k.mps k.ups k.bsnt.num) (signals gives_up)) (ap signals_in h)
      ∙ sym (map-append (signal_of m.param m.number l.mps l.ups l.bsnt.num) says (signals gives_up)))

pub carried : (l : Link) (v : View) →
    let x = goes_on l.congested l.state (met v.0 l.state (facts_of l v)) in leaving l (meeting_of v) (number_in v) x ≡ outcome_of l (meeting_of v) x
carried l v = goes_on_lem l.congested l (meeting_of v) (number_in v) (met v.0 l.state (facts_of l v)) (of_cell l v)
