-- What holds at every single mark of a history: the in-service indication is given where the other side of the demand holds, and a proving unit is sent on a
-- connection that came up without forced emergency. As a test, and as what it says. Assumes nothing.
use mathlib.Core.Path.{◌≡◌, subst}
use mathlib.Core.Bool.{Bool, true, false, not, ◌&&◌, ◌||◌, false≢true}
use mathlib.Core.List.{List, [], ◌∷◌, ◌++◌}
use Prim.Native.Nat.{ℕ}
use Rattle.unit.specs.declared.Mps.{Mps}
use Rattle.table6.proofs.Every.{left, right}
use Rattle.history.specs.History.{Mark, edge, proving_sent, in_service, Somewhere, mps}
use Rattle.history.specs.Tests.{from, alive, served}

abbrev pub is_emergency : Mps → Bool
is_emergency Mps.Neutral = false
is_emergency Mps.Normal = false
is_emergency Mps.Emergency = true

abbrev pub spared : List Mark → Bool
spared h = alive h && not (is_emergency (mps (from edge h)))

unfoldable pub lawful : ℕ → List Mark → Bool
lawful n1 [] = true
lawful n1 (m ∷ h) = (not (in_service m) || served n1 h) && ((not (proving_sent m) || spared h) && lawful n1 h)

pub implied : (a b : Bool) → (not a || b) ≡ true → a ≡ true → b ≡ true
implied true b h e = h
implied false b h e = absurd (false≢true e)

module _ (n1 : ℕ) where
  earlier : (a l : List Mark) → lawful n1 (a ++ l) ≡ true → lawful n1 l ≡ true
  unfolding lawful
  earlier [] l h = h
  earlier (m ∷ a) l h =
      earlier a l (right (not (proving_sent m) || spared (a ++ l)) (lawful n1 (a ++ l)) (right (not (in_service m) || served n1 (a ++ l)) ((not (proving_sent m) || spared (a ++ l)) && lawful n1 (a ++ l)) h))

  module _ (h : List Mark) (k : lawful n1 h ≡ true) where
    there : (p : Mark → Bool) (i : Somewhere p h) → lawful n1 (i.mark ∷ i.earlier) ≡ true
    there p i = earlier i.later (i.mark ∷ i.earlier) (subst (λ (x : List Mark). lawful n1 x ≡ true) i.whole k)

    pub indication : (i : Somewhere in_service h) → served n1 i.earlier ≡ true
    unfolding lawful
    indication i =
        let l = i.earlier in
        implied (in_service i.mark) (served n1 l) (left (not (in_service i.mark) || served n1 l) ((not (proving_sent i.mark) || spared l) && lawful n1 l) (there in_service i)) i.passes

    pub unit : (u : Somewhere proving_sent h) → spared u.earlier ≡ true
    unfolding lawful
    unit u =
        let l = u.earlier in
        implied (proving_sent u.mark) (spared l)
        (left (not (proving_sent u.mark) || spared l) (lawful n1 l) (right (not (in_service u.mark) || served n1 l) ((not (proving_sent u.mark) || spared l) && lawful n1 l) (there proving_sent u)))
        u.passes
