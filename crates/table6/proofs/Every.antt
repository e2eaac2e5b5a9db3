-- The tests over the whole table, computed, and the law that turns such a test into what holds of a choice. Assumes nothing.
use mathlib.Core.Path.{◌≡◌, refl}
use mathlib.Core.Bool.{Bool, true, false, cond, ◌&&◌, and-eq-true_iff}
use mathlib.Core.List.{List, [], ◌∷◌, ◌++◌, append_assoc, append-nil}
use Prim.Native.Nat.{ℕ, zero, suc}
use lib.ListN.{get_or}
use Rattle.table6.specs.declared.State.{State}
use Rattle.table6.specs.declared.Facts.{Facts}
use Rattle.table6.specs.Cell.{Act, tell, alter, holds, Cell, Illegal, to, ◌⨟◌, ◌⨾◌, IF◌THEN◌ELSE◌, Row, cell, Choice, illegal, does, after, chosen}
use Rattle.table6.specs.Rows.{Printed, one, two, printed, Heading, rows, nowhere, heading}
use Rattle.table6.specs.Every.{Test, in_cell, in_states, in_row, in_printed, behind_each, in_rows, Every, stop, but_stop, start, but_start, expiry_of_t2, but_expiry_of_t2}
use Rattle.table6.specs.Every.{five, one_message, in_service, out_of_service, not_told, release, response, proving, t1_set, t2_set, t2_not_set, t2_reset, given_up}
use Rattle.table6.proofs.Unfolded.{every_row}

pub at_most_five : Every five
unfolding every_row
at_most_five = refl

pub at_most_one_message : Every one_message
unfolding every_row
at_most_one_message = refl

pub in_service_said : Every in_service
unfolding every_row
in_service_said = refl

pub release_said : Every release
unfolding every_row
release_said = refl

pub response_said : Every response
unfolding every_row
response_said = refl

pub proving_said : Every proving
unfolding every_row
proving_said = refl

pub out_of_service_said : in_rows out_of_service but_stop ≡ true
unfolding every_row
out_of_service_said = refl

pub stop_not_told : in_rows not_told stop ≡ true
unfolding every_row
stop_not_told = refl

pub t1_set_said : Every t1_set
unfolding every_row
t1_set_said = refl

pub start_sets_t2 : in_rows t2_set start ≡ true
unfolding every_row
start_sets_t2 = refl

pub others_do_not : in_rows t2_not_set but_start ≡ true
unfolding every_row
others_do_not = refl

pub t2_reset_said : in_rows t2_reset but_expiry_of_t2 ≡ true
unfolding every_row
t2_reset_said = refl

pub t2_gives_up : in_rows given_up expiry_of_t2 ≡ true
unfolding every_row
t2_gives_up = refl

-- a test holds of a choice, behind the actions read so far
abbrev pub Holds : (List Act → State → Bool) → List Act → Choice → Type 0
Holds t acts illegal = Unit {0}
Holds t acts (does more next) = t (acts ++ more) next ≡ true

pub one_more : (t : List Act → State → Bool) (acts : List Act) (a : Act) (x : Choice) → Holds t (acts ++ a ∷ []) x → Holds t acts (after a x)
one_more t acts a illegal h = tt
one_more t acts a (does more next) h = rw append_assoc at h

either : (t : List Act → State → Bool) (acts : List Act) (b : Bool) (x y : Choice) → Holds t acts x → Holds t acts y → Holds t acts (cond b x y)
either t acts true x y p q = p
either t acts false x y p q = q

of_cell : (t : List Act → State → Bool) (acts : List Act) (c : Cell) (f : Facts) → in_cell t acts c ≡ true → Holds t acts (chosen f c)
of_cell t acts Illegal f h = tt
of_cell t acts (to next) f h = rw append-nil h
of_cell t acts (a ⨟ c) f h = one_more t acts (tell a) (chosen f c) (of_cell t (acts ++ tell a ∷ []) c f h)
of_cell t acts (a ⨾ c) f h = one_more t acts (alter a) (chosen f c) (of_cell t (acts ++ alter a ∷ []) c f h)
of_cell t acts (IF q THEN c ELSE d) f h =
    let p = (and-eq-true_iff (in_cell t acts c) (in_cell t acts d)).0 h in
    either t acts (holds q f) (chosen f c) (chosen f d) (of_cell t acts c f p.0) (of_cell t acts d f p.1)

pub left : (a b : Bool) → a && b ≡ true → a ≡ true
left a b h = ((and-eq-true_iff a b).0 h).0

pub right : (a b : Bool) → a && b ≡ true → b ≡ true
right a b h = ((and-eq-true_iff a b).0 h).1

pub of_states : (g : State → Bool) → in_states g ≡ true → (s : State) → g s ≡ true
of_states g h State.S111 = left (g State.S111) _ h
of_states g h State.S141 = left (g State.S141) _ (right (g State.S111) _ h)
of_states g h State.S212 = left (g State.S212) _ (right (g State.S141) _ (right (g State.S111) _ h))
of_states g h State.S222 = left (g State.S222) _ (right (g State.S212) _ (right (g State.S141) _ (right (g State.S111) _ h)))
of_states g h State.S242 = left (g State.S242) _ (right (g State.S222) _ (right (g State.S212) _ (right (g State.S141) _ (right (g State.S111) _ h))))
of_states g h State.S2103 = left (g State.S2103) _ (right (g State.S242) _ (right (g State.S222) _ (right (g State.S212) _ (right (g State.S141) _ (right (g State.S111) _ h)))))
of_states g h State.S2104 = left (g State.S2104) _ (right (g State.S2103) _ (right (g State.S242) _ (right (g State.S222) _ (right (g State.S212) _ (right (g State.S141) _ (right (g State.S111) _ h))))))
of_states g h State.S3105 = right (g State.S2104) _ (right (g State.S2103) _ (right (g State.S242) _ (right (g State.S222) _ (right (g State.S212) _ (right (g State.S141) _ (right (g State.S111) _ h))))))

of_row : (t : Test) (acts : List Act) (r : Row) → in_row t acts r ≡ true → (s : State) (f : Facts) → Holds (t s) acts (chosen f (cell r s))
of_row t acts r h s f = of_cell (t s) acts (cell r s) f (of_states (λ s. in_cell (t s) acts (cell r s)) h s)

by_fact : (t : Test) (acts : List Act) (b : Bool) (r q : Row) → in_row t acts r ≡ true → in_row t acts q ≡ true → (s : State) (f : Facts) →
    Holds (t s) acts (chosen f (cell (cond b r q) s))
by_fact t acts true r q p h s f = of_row t acts r p s f
by_fact t acts false r q p h s f = of_row t acts q h s f

pub of_printed : (t : Test) (acts : List Act) (p : Printed) → in_printed t acts p ≡ true → (s : State) (f : Facts) → Holds (t s) acts (chosen f (cell (printed f p) s))
of_printed t acts (one r) h s f = of_row t acts r h s f
of_printed t acts (two q r w) h s f =
    by_fact t acts (holds q f) r w (left (in_row t acts r) (in_row t acts w) h) (right (in_row t acts r) (in_row t acts w) h) s f

pub no_row : (f : Facts) (s : State) → cell (printed f nowhere.row) s ≡ Illegal
no_row f State.S111 = refl
no_row f State.S141 = refl
no_row f State.S212 = refl
no_row f State.S222 = refl
no_row f State.S242 = refl
no_row f State.S2103 = refl
no_row f State.S2104 = refl
no_row f State.S3105 = refl

of_each : (t : Test) (begins : Heading → List Act) (hs : List Heading) → behind_each t begins hs ≡ true → (row : ℕ) (s : State) (f : Facts) →
    Holds (t s) (begins (get_or hs row nowhere)) (chosen f (cell (printed f (get_or hs row nowhere).row) s))
of_each t begins [] h row s f = rw (no_row f s) tt
of_each t begins (x ∷ hs) h zero s f = of_printed t (begins x) x.row (left (in_printed t (begins x) x.row) (behind_each t begins hs) h) s f
of_each t begins (x ∷ hs) h (suc row) s f = of_each t begins hs (right (in_printed t (begins x) x.row) (behind_each t begins hs) h) row s f

-- what every cell passes, behind what its heading begins with, holds of what the facts choose, in any row and state
pub of_heading : (t : Test) (begins : Heading → List Act) → behind_each t begins rows ≡ true → (row : ℕ) (s : State) (f : Facts) →
    Holds (t s) (begins (heading row)) (chosen f (cell (printed f (heading row).row) s))
of_heading t begins h row s f = of_each t begins rows h row s f

pub of_choice : (t : Test) → Every t → (row : ℕ) (s : State) (f : Facts) → Holds (t s) [] (chosen f (cell (printed f (heading row).row) s))
of_choice t h row s f = of_heading t (λ h. []) h row s f
