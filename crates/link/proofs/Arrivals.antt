-- What an event does by itself, and behind it what the number of its cell does, is the step. The code looks at the link as the event left it, and not as
-- it was: of an event that alters the link by itself no cell asks for what it alters. Assumes nothing.
use mathlib.Core.Path.{◌≡◌, refl, sym, ap, subst, ◌∙◌}
use mathlib.Core.Bool.{Bool, true, false, cond, not, ◌&&◌}
use mathlib.Core.List.{◌++◌}
use Rattle.std.specs.Prelude.{Some}
use Prim.Native.Nat.{ℕ}
use lib.Dec.{eqb}
use Rattle.unit.specs.declared.Arrived.{Arrived}
use Rattle.unit.specs.declared.Mps.{Mps}
use Rattle.unit.specs.declared.Ups.{Ups}
use Rattle.table6.specs.declared.State.{State}
use Rattle.table6.specs.declared.Facts.{Facts}
use Rattle.table6.specs.declared.Does.{Does}
use Rattle.table6.specs.Summary.{Op, keep, put, over, Count, same, decided, less, Summary, still, with_mps, with_ups, with_c1, with_bsnt, with_congested, summary, Summed, refused, summed}
use Rattle.table6.specs.Order.{signals}
use Rattle.table6.specs.Words.{2/4/2, is-2/10/3}
use Rattle.table6.specs.Stored.{state_op, ups_op, arrival, behind, changed, word_count, met, gives_up, goes_on, met_as}
use Rattle.table6.proofs.Unfolded.{every_row}
use Rattle.table6.proofs.Stored.{eight, of_eight}
use Rattle.link.specs.declared.Num.{Num}
use Rattle.link.specs.declared.Link.{Link}
use Rattle.link.specs.declared.Event.{Event}
use Rattle.link.specs.declared.Event.TheVariants as event
use Rattle.link.specs.declared.View.{View}
use Rattle.link.specs.Effect.{with_state}
use Rattle.link.specs.Effect as effect
use Rattle.link.specs.Signal.{none}
use Rattle.link.specs.Step.{Outcome, Illegal, Legal, step_of}
use Rattle.link.specs.Stored.{bare_view, view_of, number_in, meeting_of, facts_of, summed_up, arrived_of, risen_of, applied_of, given_by, signals_of}
use Rattle.link.proofs.Performed.{outcome_of, as_met}
use Rattle.link.proofs.Carried.{leaving, carried}

-- WHAT BECOMES OF THE LINK

-- a number behind what the event did by itself, and a connection that comes up: as if all were one
abbrev Behind : Summary → Bool → ℕ → ℕ → Num → Link → Type 0
Behind a up n p num l =
    let k = summed_up a p num l in
    summed_up (changed a up n) p num l ≡ summed_up (changed still false n) 0 none (cond up (risen_of p k) k)

nothing : (up : Bool) (n p : ℕ) (num : Num) (l : Link) → Behind still up n p num l
nothing true n p num l = refl
nothing false n p num l = refl

bsnt_taken : (up : Bool) (n p : ℕ) (num : Num) (l : Link) → Behind (with_bsnt (put true) still) up n p num l
bsnt_taken true n p num l = refl
bsnt_taken false n p num l = refl

c1_less : (up : Bool) (n p : ℕ) (num : Num) (l : Link) → Behind (with_c1 (less same) still) up n p num l
c1_less true n p num l = refl
c1_less false n p num l = refl

flag_put : (b up : Bool) (n p : ℕ) (num : Num) (l : Link) → Behind (with_congested (put b) still) up n p num l
flag_put b true n p num l = refl
flag_put b false n p num l = refl

-- where MPS or UPS is altered no connection comes up
mps_forced : (x : Mps) {up : Bool} (n p : ℕ) (num : Num) (l : Link) → up ≡ false → Behind (with_mps (put x) still) up n p num l
mps_forced x n p num l e = rw e refl

last_wins : (x : Ups) (o : Op Ups) (u : Ups) → over (behind (put x) o) u ≡ over (behind keep o) x
last_wins x keep u = refl
last_wins x (put y) u = refl

ups_wished : (x : Ups) {up : Bool} (n p : ℕ) (num : Num) (l : Link) → up ≡ false → Behind (with_ups (put x) still) up n p num l
ups_wished x n p num l e =
    rw e (ap (λ (u : Ups). effect.with_ups u (summed_up (changed still false n) 0 none (summed_up (with_ups (put x) still) p num l))) (last_wins x (ups_op n) l.ups))

-- WHAT A CELL DECIDES

abbrev count_of : Summed → Count
count_of refused = same
count_of (summed s says next) = s.c1

abbrev Decides : Count → Type 0
Decides same = Unit {0}
Decides decided = ⊥
Decides (less c) = Unit {0}

not_up : (up : Bool) → cond up decided same ≡ same → up ≡ false
not_up true e = absurd (subst Decides (sym e) tt)
not_up false e = refl

-- In a row nothing is decided.
abbrev Undecided : ℕ → Type 0
Undecided row = (f : Facts) → eight (λ s. count_of (met row s f)) ≡ eight (λ s. same)

-- what goes on decides nothing more
still_counted : (b : Bool) (s : State) (x : Summed) → count_of (goes_on b s x) ≡ count_of x
still_counted b s refused = refl
still_counted b s (summed y says next) = by (not (is-2/10/3 s) && (is-2/10/3 next && over y.congested b)) where
  by : (z : Bool) → count_of (cond z (summed (summary gives_up y) (says ++ signals gives_up) 2/4/2) (summed y says next)) ≡ y.c1
  by true = refl
  by false = refl

pub down : (row : ℕ) (s : State) (f : Facts) (b : Bool) (d : Does) → Undecided row → (arrival row).c1 ≡ same → met_as row s (Some d) ≡ goes_on b s (met row s f) → d.up ≡ false
down row s f b d u a e =
    not_up d.up (ap (cond d.up decided) (sym a) ∙ ap count_of e ∙ still_counted b s (met row s f) ∙ of_eight (λ s. count_of (met row s f)) (λ s. same) (u f) s)

undecided_1 : Undecided 1
unfolding met every_row
undecided_1 f = refl

undecided_2 : Undecided 2
unfolding met every_row
undecided_2 f = refl

undecided_26 : Undecided 26
unfolding met every_row
undecided_26 f = refl

undecided_27 : Undecided 27
unfolding met every_row
undecided_27 f = refl

undecided_28 : Undecided 28
unfolding met every_row
undecided_28 f = refl

pub undecided_29 : Undecided 29
unfolding met every_row
undecided_29 f = refl

pub undecided_30 : Undecided 30
unfolding met every_row
undecided_30 f = refl

-- THE STEP

-- DATA's rows ask nothing.
abbrev Plain : ℕ → Type 0
Plain row = (f g : Facts) → eight (λ s. met row s f) ≡ eight (λ s. met row s g)

plain_13 : Plain 13
unfolding met every_row
plain_13 f g = refl

plain_14 : Plain 14
unfolding met every_row
plain_14 f g = refl

plain_15 : Plain 15
unfolding met every_row
plain_15 f g = refl

plain_16 : Plain 16
unfolding met every_row
plain_16 f g = refl

abbrev SameFacts : Link → View → Type 0
SameFacts l v = met v.0 l.state (facts_of (arrived_of v l) v) ≡ met v.0 l.state (facts_of l v)

data_facts : (l : Link) (v : View) → Plain v.0 → SameFacts l v
data_facts l v q = of_eight (λ s. met v.0 s (facts_of (arrived_of v l) v)) (λ s. met v.0 s (facts_of l v)) (q (facts_of (arrived_of v l) v) (facts_of l v)) l.state

t3_facts : (b : Bool) (l : Link) → SameFacts l (bare_view (cond b 34 33))
t3_facts true l = refl
t3_facts false l = refl

same_facts : (e : Event) (l : Link) → SameFacts l (view_of e l.c1)
same_facts (event.Data Arrived.INS n) l = data_facts l (view_of (event.Data Arrived.INS n) l.c1) plain_13
same_facts (event.Data Arrived.NM n) l = data_facts l (view_of (event.Data Arrived.NM n) l.c1) plain_14
same_facts (event.Data (Arrived.Other status) n) l = data_facts l (view_of (event.Data (Arrived.Other status) n) l.c1) plain_15
same_facts (event.Data Arrived.Short n) l = data_facts l (view_of (event.Data Arrived.Short n) l.c1) plain_15
same_facts (event.Data Arrived.Long n) l = data_facts l (view_of (event.Data Arrived.Long n) l.c1) plain_16
same_facts event.T3 l = t3_facts (eqb l.c1 0) l
same_facts e l = refl

-- what was met of a link and a view
abbrev pub Met-so : Link → View → Does → Type 0
Met-so l v d = met_as v.0 l.state (Some d) ≡ goes_on l.congested l.state (met v.0 l.state (facts_of (arrived_of v l) v))

t3_joined : (b : Bool) (l : Link) (n : ℕ) (up : Bool) → Behind (arrival (cond b 34 33)) up n 0 none l
t3_joined true l n up = nothing up n 0 none l
t3_joined false l n up = c1_less up n 0 none l

joined : (e : Event) (l : Link) (d : Does) → Met-so l (view_of e l.c1) d → let v = view_of e l.c1 in Behind (arrival v.0) d.up d.number v.1 v.2 l
joined (event.Data Arrived.INS n) l d h = bsnt_taken d.up d.number 0 n l
joined (event.Data a n) l d h = bsnt_taken d.up d.number 0 n l
joined event.Emergency l d h = ups_wished Ups.Emergency d.number 0 none l (down 1 l.state _ l.congested d undecided_1 refl h)
joined event.EmergencyCeases l d h = ups_wished Ups.Normal d.number 0 none l (down 2 l.state _ l.congested d undecided_2 refl h)
joined event.ForceProving l d h = mps_forced Mps.Normal d.number 0 none l (down 26 l.state _ l.congested d undecided_26 refl h)
joined event.ForceEmergency l d h = mps_forced Mps.Emergency d.number 0 none l (down 27 l.state _ l.congested d undecided_27 refl h)
joined event.ClearForceModes l d h = mps_forced Mps.Neutral d.number 0 none l (down 28 l.state _ l.congested d undecided_28 refl h)
joined (event.Congestion p) l d h = flag_put true d.up d.number p none l
joined event.CongestionCeased l d h = flag_put false d.up d.number 0 none l
joined event.T3 l d h = t3_joined (eqb l.c1 0) l d.number d.up
joined e l d h = let v = view_of e l.c1 in nothing d.up d.number v.1 v.2 l

-- the record that a step leaves
abbrev pub left_of : Link → View → Does → Link
left_of l v d = let a = arrived_of v l in applied_of d.number (cond d.up (risen_of v.1 a) a)

-- and what it answers, with its signals by the link that is left
abbrev pub answer_of : Link → View → Does → Outcome
answer_of l v d = Legal (left_of l v d) (signals_of (word_count d.number) d.words (given_by v.1 (number_in v) (left_of l v d)))

same_state : (up : Bool) (p : ℕ) (a : Link) → (cond up (risen_of p a) a).state ≡ a.state
same_state true p a = refl
same_state false p a = refl

as_one : (l : Link) (v : View) (d : Does) → Behind (arrival v.0) d.up d.number v.1 v.2 l → answer_of l v d ≡ leaving l (meeting_of v) (number_in v) (met_as v.0 l.state (Some d))
unfolding signals_of
as_one l v d j =
    let m : State → Link → Link = λ x k. with_state (over (state_op d.number) x) k in
    let a = arrived_of v l in
    let k : left_of l v d ≡ m l.state (summed_up (changed (arrival v.0) d.up d.number) v.1 v.2 l) = λ i. m (same_state d.up v.1 a i) (sym j i) in
    ap (λ (z : Link). Legal z (signals_of (word_count d.number) d.words (given_by v.1 (number_in v) z))) k

-- what was met of an event, with its signals by the link that is left
pub acted : (l : Link) (e : Event) (d : Does) → let v = view_of e l.c1 in Met-so l v d → answer_of l v d ≡ step_of l e
acted l e d h =
    let v = view_of e l.c1 in
    as_one l v d (joined e l d h) ∙ ap (leaving l (meeting_of v) (number_in v)) (h ∙ ap (goes_on l.congested l.state) (same_facts e l)) ∙ carried l v ∙ as_met l e

pub turned_down : (l : Link) (e : Event) →
    let v = view_of e l.c1 in
    refused ≡ goes_on l.congested l.state (met v.0 l.state (facts_of (arrived_of v l) v)) → Illegal ≡ step_of l e
turned_down l e h =
    let v = view_of e l.c1 in
    ap (outcome_of l (meeting_of v)) (h ∙ ap (goes_on l.congested l.state) (same_facts e l)) ∙ as_met l e
