-- The stored table decodes to Table 6: one computed test over all cells, and one law that turns it into the rule at each. Assumes nothing.
use mathlib.Core.Path.{◌≡◌, refl, sym, ap, ◌∙◌}
use mathlib.Core.Bool.{Bool, true, false, cond, ◌&&◌}
use mathlib.Core.List.{List, [], ◌∷◌, ◌++◌, append_assoc}
use Prim.Native.Nat.{ℕ, ◌<◌, ◌≤◌}
use lib.Dec.{eqb, ltb}
use lib.ListN.{get_or}
use borrow.Author.Tests.{eqb-true, ltb-true, ltb-false}
use Rattle.std.specs.Prelude.{Some, None}
use Rattle.table6.specs.declared.State.{State}
use Rattle.table6.specs.declared.Facts.{Facts}
use Rattle.table6.specs.declared.Does.{Does}
use Rattle.table6.specs.declared.effects.Alternative.{Alternative}
use Rattle.table6.specs.Cell.{Cond, LPO=0, LPO=0&INS=0, LPO=0&INS=1, UU=EM-or-NM, Source=User, BSNT-available, MU>4, holds}
use Rattle.table6.specs.Cell.{Act, tell, alter, Cell, Illegal, to, ◌⨟◌, ◌⨾◌, IF◌THEN◌ELSE◌, Row, cell, Choice, illegal, does, after, chosen}
use Rattle.table6.specs.Summary.{Summed, refused, sum}
use Rattle.table6.specs.Rows.{Printed, one, two, printed, rows, nowhere, heading}
use Rattle.table6.specs.Stored.{place, codes, no_row, row_of, code_at, number_at, Ask, gives, asks, picked, ask_at, done_by, plainly, leading, gone_on, met_of, from, meets, met, goes_on, met_as}
use Rattle.table6.proofs.Lists.{alike, past}
use Rattle.table6.proofs.Unfolded.{every_row}

-- Conditions by number, as the ways below have them; 0 always holds.
abbrev number : Cond → ℕ
number LPO=0 = 1
number LPO=0&INS=0 = 2
number LPO=0&INS=1 = 3
number UU=EM-or-NM = 4
number Source=User = 5
number BSNT-available = 6
number MU>4 = 7

abbrev test : ℕ → Facts → Bool
test q f =
    get_or
    (true
    ∷ holds LPO=0 f
    ∷ holds LPO=0&INS=0 f
    ∷ holds LPO=0&INS=1 f
    ∷ holds UU=EM-or-NM f
    ∷ holds Source=User f
    ∷ holds BSNT-available f
    ∷ holds MU>4 f
    ∷ [])
    q true

numbered : (q : Cond) (f : Facts) → test (number q) f ≡ holds q f
numbered LPO=0 f = refl
numbered LPO=0&INS=0 f = refl
numbered LPO=0&INS=1 f = refl
numbered UU=EM-or-NM f = refl
numbered Source=User f = refl
numbered BSNT-available f = refl
numbered MU>4 f = refl

-- A way to an outcome: there at once, or by a condition.
data Way : Type 0 where
  only : Summed → Way
  when : ℕ → Way → Way → Way

abbrev taken : Way → Facts → Summed
taken (only d) f = d
taken (when q w v) f = cond (test q f) (taken w f) (taken v f)

-- THE STORED SIDE

abbrev asked_way : ℕ → State → Ask → Way
asked_way row s (gives c up) = only (met_as row s (Some (done_by (c, up))))
asked_way row s (asks q y n) = when (number q) (asked_way row s y) (asked_way row s n)

abbrev coded_way : ℕ → State → ℕ → Way
coded_way row s c = cond (eqb c 0) (only refused) (asked_way row s (ask_at c))

by_answer : (b : Bool) (row : ℕ) (s : State) (y n : Alternative) (w v : Summed) → w ≡ met_as row s (Some (done_by y)) → v ≡ met_as row s (Some (done_by n)) →
    cond b w v ≡ met_as row s (Some (done_by (cond b y n)))
by_answer true row s y n w v p q = p
by_answer false row s y n w v p q = q

stored_way : (row : ℕ) (s : State) (a : Ask) (f : Facts) → taken (asked_way row s a) f ≡ met_as row s (Some (done_by (picked f a)))
stored_way row s (gives c up) f = refl
stored_way row s (asks q y n) f =
    rw (numbered q f) (by_answer (holds q f) row s (picked f y) (picked f n) _ _ (stored_way row s y f) (stored_way row s n f))

by_code : (b : Bool) (row : ℕ) (s : State) (a : Ask) (f : Facts) →
    taken (cond b (only refused) (asked_way row s a)) f ≡ met_as row s (cond b None (Some (done_by (picked f a))))
by_code true row s a f = refl
by_code false row s a f = stored_way row s a f

coded_met : (row : ℕ) (s : State) (c : ℕ) (f : Facts) → taken (coded_way row s c) f ≡ met_as row s (plainly c f)
coded_met row s c f = by_code (eqb c 0) row s (ask_at c) f

-- what is left of a way once an answer is known
abbrev given : ℕ → Bool → Way → Way
given q b (only d) = only d
given q b (when p w v) = cond (eqb p q) (cond b (given q b w) (given q b v)) (when p (given q b w) (given q b v))

known : (b : Bool) (w v w' v' : Way) (f : Facts) → taken w' f ≡ taken w f → taken v' f ≡ taken v f → taken (cond b w' v') f ≡ cond b (taken w f) (taken v f)
known true w v w' v' f x y = x
known false w v w' v' f x y = y

given_by_lem : (z : Bool) (p q : ℕ) (b : Bool) (w v w' v' : Way) (f : Facts) → eqb p q ≡ z → test q f ≡ b → taken w' f ≡ taken w f → taken v' f ≡ taken v f →
    taken (cond z (cond b w' v') (when p w' v')) f ≡ cond (test p f) (taken w f) (taken v f)
given_by_lem true p q b w v w' v' f e t x y = rw (eqb-true p q e, t) (known b w v w' v' f x y)
given_by_lem false p q b w v w' v' f e t x y = rw (x, y)

given_way : (q : ℕ) (b : Bool) (w : Way) (f : Facts) → test q f ≡ b → taken (given q b w) f ≡ taken w f
given_way q b (only d) f t = refl
given_way q b (when p w v) f t = given_by_lem (eqb p q) p q b w v _ _ f refl t (given_way q b w f t) (given_way q b v f t)

-- THE PAPER'S SIDE

-- a cell behind what arriving does and the actions read so far
abbrev way : List Act → List Act → Cell → Way
way arrives acts Illegal = only refused
way arrives acts (to next) = only (sum arrives (does acts next))
way arrives acts (a ⨟ c) = way arrives (acts ++ tell a ∷ []) c
way arrives acts (a ⨾ c) = way arrives (acts ++ alter a ∷ []) c
way arrives acts (IF q THEN c ELSE d) = when (number q) (way arrives acts c) (way arrives acts d)

abbrev behind : List Act → Choice → Choice
behind acts illegal = illegal
behind acts (does more next) = does (acts ++ more) next

one_more : (acts : List Act) (a : Act) (x : Choice) → behind (acts ++ a ∷ []) x ≡ behind acts (after a x)
one_more acts a illegal = refl
one_more acts a (does more next) = ap (λ (l : List Act). does l next) (append_assoc acts (a ∷ []) more)

by_holds : (b : Bool) (arrives acts : List Act) (x y : Choice) (w v : Summed) → w ≡ sum arrives (behind acts x) → v ≡ sum arrives (behind acts y) →
    cond b w v ≡ sum arrives (behind acts (cond b x y))
by_holds true arrives acts x y w v p q = p
by_holds false arrives acts x y w v p q = q

append_nil : (acts : List Act) → acts ≡ acts ++ []
append_nil [] = refl
append_nil (a ∷ acts) = ap (λ (l : List Act). a ∷ l) (append_nil acts)

paper_way : (arrives acts : List Act) (c : Cell) (f : Facts) → taken (way arrives acts c) f ≡ sum arrives (behind acts (chosen f c))
paper_way arrives acts Illegal f = refl
paper_way arrives acts (to next) f = ap (λ (l : List Act). sum arrives (does l next)) (append_nil acts)
paper_way arrives acts (a ⨟ c) f = paper_way arrives (acts ++ tell a ∷ []) c f ∙ ap (sum arrives) (one_more acts (tell a) (chosen f c))
paper_way arrives acts (a ⨾ c) f = paper_way arrives (acts ++ alter a ∷ []) c f ∙ ap (sum arrives) (one_more acts (alter a) (chosen f c))
paper_way arrives acts (IF q THEN c ELSE d) f =
    rw (numbered q f) (by_holds (holds q f) arrives acts (chosen f c) (chosen f d) _ _ (paper_way arrives acts c f) (paper_way arrives acts d f))

-- THE TEST

abbrev asked : Printed → ℕ
asked (one r) = 0
asked (two q r s) = number q

abbrev printed_if : Bool → Printed → Row
printed_if b (one r) = r
printed_if true (two q r s) = r
printed_if false (two q r s) = s

abbrev pub eight {ℓ} : {A : Type ℓ} → (State → A) → List A
eight g = g State.S111 ∷ g State.S141 ∷ g State.S212 ∷ g State.S222 ∷ g State.S242 ∷ g State.S2103 ∷ g State.S2104 ∷ g State.S3105 ∷ []

abbrev stored_cell : Bool → ℕ → State → Way
stored_cell b row s = given (asked (heading row).row) b (coded_way row s (code_at row s))

abbrev paper_cell : Bool → ℕ → State → Way
paper_cell b row s = way (heading row).arrives [] (cell (printed_if b (heading row).row) s)

all_cells : (b : Bool) → from (λ row. eight (stored_cell b row)) 0 35 ≡ from (λ row. eight (paper_cell b row)) 0 35
unfolding row_of code_at ask_at number_at every_row
all_cells true = refl
all_cells false = refl

-- THE RULE AT EACH CELL

pub of_eight {ℓ} : {A : Type ℓ} (g h : State → A) → eight g ≡ eight h → (s : State) → g s ≡ h s
of_eight g h e State.S111 = ap (λ l. get_or l 0 (g State.S111)) e
of_eight g h e State.S141 = ap (λ l. get_or l 1 (g State.S111)) e
of_eight g h e State.S212 = ap (λ l. get_or l 2 (g State.S111)) e
of_eight g h e State.S222 = ap (λ l. get_or l 3 (g State.S111)) e
of_eight g h e State.S242 = ap (λ l. get_or l 4 (g State.S111)) e
of_eight g h e State.S2103 = ap (λ l. get_or l 5 (g State.S111)) e
of_eight g h e State.S2104 = ap (λ l. get_or l 6 (g State.S111)) e
of_eight g h e State.S3105 = ap (λ l. get_or l 7 (g State.S111)) e

same_cell : (b : Bool) (row : ℕ) → row < 35 → (s : State) → stored_cell b row s ≡ paper_cell b row s
same_cell b row h = of_eight (stored_cell b row) (paper_cell b row) (alike (λ k. eight (stored_cell b k)) (λ k. eight (paper_cell b k)) 35 [] (all_cells b) row h)

from_start : (x : Choice) → behind [] x ≡ x
from_start illegal = refl
from_start (does acts next) = refl

either_row : (b : Bool) (q : Cond) (r s : Row) → printed_if b (two q r s) ≡ cond b r s
either_row true q r s = refl
either_row false q r s = refl

printed_by : (p : Printed) (f : Facts) → printed_if (test (asked p) f) p ≡ printed f p
printed_by (one r) f = refl
printed_by (two q r s) f = rw (numbered q f) (either_row (holds q f) q r s)

inside : (row : ℕ) (s : State) (f : Facts) → row < 35 → met_as row s (plainly (code_at row s) f) ≡ meets (heading row) s f
inside row s f h =
    let c : ℕ = code_at row s in
    let p : Printed = (heading row).row in
    let q : ℕ = asked p in
    sym (coded_met row s c f)
    ∙ sym (given_way q (test q f) (coded_way row s c) f refl)
    ∙ ap (λ (w : Way). taken w f) (same_cell (test q f) row h s)
    ∙ paper_way (heading row).arrives [] (cell (printed_if (test q f) p) s) f
    ∙ ap (sum (heading row).arrives) (from_start (chosen f (cell (printed_if (test q f) p) s)) ∙ ap (λ (r : Row). chosen f (cell r s)) (printed_by p f))

no_cell : (row : ℕ) (s : State) (f : Facts) → met_as row s (plainly (get_or no_row (place s) 0) f) ≡ meets nowhere s f
no_cell row State.S111 f = refl
no_cell row State.S141 f = refl
no_cell row State.S212 f = refl
no_cell row State.S222 f = refl
no_cell row State.S242 f = refl
no_cell row State.S2103 f = refl
no_cell row State.S2104 f = refl
no_cell row State.S3105 f = refl

outside : (row : ℕ) (s : State) (f : Facts) → 35 ≤ row → met_as row s (plainly (code_at row s) f) ≡ meets (heading row) s f
unfolding row_of code_at
outside row s f h = rw (← past codes row no_row h, ← past rows row nowhere h) (no_cell row s f)

by_row : (b : Bool) (row : ℕ) (s : State) (f : Facts) → ltb row 35 ≡ b → met_as row s (plainly (code_at row s) f) ≡ meets (heading row) s f
by_row true row s f e = inside row s f (ltb-true row 35 e)
by_row false row s f e = outside row s f (ltb-false row 35 e)

at_each_cell : (row : ℕ) (s : State) (f : Facts) → met_as row s (plainly (code_at row s) f) ≡ met row s f
unfolding met
at_each_cell row s f = by_row (ltb row 35) row s f refl

-- ON A CONGESTED LINK

-- a way on which each outcome goes on
abbrev going : Bool → State → Way → Way
going b s (only d) = only (goes_on b s d)
going b s (when q w v) = when q (going b s w) (going b s v)

gone : (b : Bool) (s : State) (w : Way) (f : Facts) → taken (going b s w) f ≡ goes_on b s (taken w f)
gone b s (only d) f = refl
gone b s (when q w v) f = by (test q f) (gone b s w f) (gone b s v f) where
  by : (z : Bool) → taken (going b s w) f ≡ goes_on b s (taken w f) → taken (going b s v) f ≡ goes_on b s (taken v f) →
      cond z (taken (going b s w) f) (taken (going b s v) f) ≡ goes_on b s (cond z (taken w f) (taken v f))
  by true x y = x
  by false x y = y

-- what the code does there, by whether the peer's field is EM or NM
abbrev on_congested : Bool → Bool → ℕ → State → ℕ → Way
on_congested b uu row s c = cond (b && (uu && leading c)) (only (met_as row s (Some (gone_on c)))) (given (number UU=EM-or-NM) uu (coded_way row s c))

all_going : (b uu : Bool) →
    from (λ row. eight (λ s. on_congested b uu row s (code_at row s))) 0 35 ≡ from (λ row. eight (λ s. going b s (given (number UU=EM-or-NM) uu (coded_way row s (code_at row s))))) 0 35
unfolding row_of code_at ask_at number_at
all_going true true = refl
all_going true false = refl
all_going false true = refl
all_going false false = refl

leads_nowhere : (b u : Bool) → b && (u && false) ≡ false
leads_nowhere true true = refl
leads_nowhere true false = refl
leads_nowhere false u = refl

some_either : (b : Bool) (x y : Does) → Some (cond b x y) ≡ cond b (Some x) (Some y)
some_either true x y = refl
some_either false x y = refl

-- a cell that is Illegal leads nowhere: so congestion may be asked first
congestion_first : (c : ℕ) (f : Facts) (b : Bool) → met_of c f b ≡ cond (b && (f.uu && leading c)) (Some (gone_on c)) (plainly c f)
unfolding met_of
congestion_first c f b = by (eqb c 0) refl where
  by : (z : Bool) → eqb c 0 ≡ z →
      cond z None (Some (cond (b && (f.uu && leading c)) (gone_on c) (done_by (picked f (ask_at c))))) ≡ cond (b && (f.uu && leading c)) (Some (gone_on c)) (cond z None (Some (done_by (picked f (ask_at c)))))
  by true e = rw (eqb-true c 0 e, leads_nowhere b f.uu) refl
  by false e = some_either (b && (f.uu && leading c)) (gone_on c) (done_by (picked f (ask_at c)))

by_congestion : (b z : Bool) (row : ℕ) (s : State) (c : ℕ) (f : Facts) → b && (f.uu && leading c) ≡ z →
    taken (cond z (only (met_as row s (Some (gone_on c)))) (given (number UU=EM-or-NM) f.uu (coded_way row s c))) f ≡ met_as row s (cond z (Some (gone_on c)) (plainly c f))
by_congestion b true row s c f e = refl
by_congestion b false row s c f e = given_way (number UU=EM-or-NM) f.uu (coded_way row s c) f refl ∙ coded_met row s c f

going_inside : (b : Bool) (row : ℕ) (s : State) (f : Facts) → row < 35 → met_as row s (met_of (code_at row s) f b) ≡ goes_on b s (met row s f)
going_inside b row s f h =
    let c : ℕ = code_at row s in
    let way : Way = given (number UU=EM-or-NM) f.uu (coded_way row s c) in
    let same : on_congested b f.uu row s c ≡ going b s way = of_eight (λ t. on_congested b f.uu row t (code_at row t)) (λ t. going b t (given (number UU=EM-or-NM) f.uu (coded_way row t (code_at row t))))
    (alike (λ k. eight (λ t. on_congested b f.uu k t (code_at k t))) (λ k. eight (λ t. going b t (given (number UU=EM-or-NM) f.uu (coded_way k t (code_at k t))))) 35 [] (all_going b f.uu) row h) s in
    ap (met_as row s) (congestion_first c f b)
    ∙ sym (by_congestion b (b && (f.uu && leading c)) row s c f refl)
    ∙ ap (λ (w : Way). taken w f) same
    ∙ gone b s way f
    ∙ ap (goes_on b s) (given_way (number UU=EM-or-NM) f.uu (coded_way row s c) f refl ∙ coded_met row s c f ∙ at_each_cell row s f)

no_code : (s : State) → get_or no_row (place s) 0 ≡ 0
no_code State.S111 = refl
no_code State.S141 = refl
no_code State.S212 = refl
no_code State.S222 = refl
no_code State.S242 = refl
no_code State.S2103 = refl
no_code State.S2104 = refl
no_code State.S3105 = refl

nothing_met : (s : State) (f : Facts) → meets nowhere s f ≡ refused
nothing_met State.S111 f = refl
nothing_met State.S141 f = refl
nothing_met State.S212 f = refl
nothing_met State.S222 f = refl
nothing_met State.S242 f = refl
nothing_met State.S2103 f = refl
nothing_met State.S2104 f = refl
nothing_met State.S3105 f = refl

going_outside : (b : Bool) (row : ℕ) (s : State) (f : Facts) → 35 ≤ row → met_as row s (met_of (code_at row s) f b) ≡ goes_on b s (met row s f)
unfolding row_of code_at met_of met
going_outside b row s f h = rw (← past codes row no_row h, ← past rows row nowhere h, no_code s, nothing_met s f) refl

by_congested_row : (z b : Bool) (row : ℕ) (s : State) (f : Facts) → ltb row 35 ≡ z → met_as row s (met_of (code_at row s) f b) ≡ goes_on b s (met row s f)
by_congested_row true b row s f e = going_inside b row s f (ltb-true row 35 e)
by_congested_row false b row s f e = going_outside b row s f (ltb-false row 35 e)

pub at_each_link : (row : ℕ) (s : State) (f : Facts) (b : Bool) → met_as row s (met_of (code_at row s) f b) ≡ goes_on b s (met row s f)
at_each_link row s f b = by_congested_row (ltb row 35) b row s f refl
