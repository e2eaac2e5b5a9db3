-- `table6::cell` meets its contract: the code that it goes by does what Table 6 says, and its number's masks do what it means. Assumes nothing.
use mathlib.Core.Path.{◌≡◌, subst, sym}
use mathlib.Core.Bool.{Bool, true, false, cond, ◌&&◌}
use native.Mathlib.Omega.{arith}
use Prim.Native.Nat.{ℕ, ◌%◌}
use lib.Dec.{eqb, ltb}
use Rattle.std.specs.Prelude.{Option, Some, None}
use Rattle.table6.specs.declared.State.{State}
use Rattle.table6.specs.declared.Facts.{Facts}
use Rattle.table6.specs.declared.Does.{Does}
use Rattle.table6.specs.declared.effects.Alternative.{Alternative}
use Rattle.table6.specs.Stored.{code_at, confirmed, confirmed_words, indicated, indicated_words, ask_at, picked, done_by, leading, gone_on, met_of, met_as, met, goes_on, Sound}
use Rattle.table6.proofs.Stored.{at_each_link}
use Rattle.table6.proofs.Masks.{sound_number, sound_confirmed, sound_indicated}
use Rattle.table6.proofs.cell.Goals as goal

by_code : (p : Alternative) → Sound (Some (done_by p))
by_code p = sound_number (p.0 % 64) (omega arith)

gone_on_lem : (c : ℕ) → Sound (Some (gone_on c))
gone_on_lem c = by (ltb c 58) where
  by : (b : Bool) → Sound (Some (cond b (record { number = confirmed; words = confirmed_words; up = true }) (record { number = indicated; words = indicated_words; up = true })))
  by true = sound_confirmed
  by false = sound_indicated

by_congestion : (z : Bool) (c : ℕ) (f : Facts) → Sound (Some (cond z (gone_on c) (done_by (picked f (ask_at c)))))
by_congestion true c f = gone_on_lem c
by_congestion false c f = by_code (picked f (ask_at c))

sound : (c : ℕ) (f : Facts) (b : Bool) → Sound (met_of c f b)
unfolding met_of
sound c f b = by (eqb c 0) where
  by : (z : Bool) → Sound (cond z None (Some (cond (b && (f.uu && leading c)) (gone_on c) (done_by (picked f (ask_at c))))))
  by true = tt
  by false = by_congestion (b && (f.uu && leading c)) c f

reached : (row : ℕ) (s : State) (f : Facts) (b : Bool) {c : ℕ} {r : Option Does} → c ≡ code_at row s → r ≡ met_of c f b → (met_as row s r ≡ goes_on b s (met row s f)) × Sound r
reached row s f b {c = c} p q = (rw (q, p) (at_each_link row s f b), subst Sound (sym q) (sound c f b))

pub returns : goal.returns
returns c = reached c.args.row c.args.state c.args.facts c.args.congested c.code_at.ensures c.does.ensures
