-- The masks of every number do what the number means: one computed test over all numbers, and what it says of each. Assumes nothing.
use mathlib.Core.Path.{◌≡◌, refl, ap}
use mathlib.Core.Bool.{Bool, true, false}
use mathlib.Core.List.{List, [], ◌∷◌}
use Prim.Native.Nat.{ℕ, ◌/◌, ◌%◌, ◌<◌}
use lib.Dec.{eqb}
use lib.ListN.{get_or}
use Rattle.unit.specs.declared.Ups.{Ups}
use Rattle.table6.specs.declared.State.{State}
use Rattle.table6.specs.Summary.{over}
use Rattle.table6.specs.Stored.{number_at, confirmed, indicated, from, state_after, timers_after, flags_after, ups_after, flag_op, state_op, ups_op, SoundNumber}
use Rattle.table6.proofs.Lists.{alike}
use Rattle.table6.proofs.Stored.{eight, of_eight}

abbrev timers : (Bool → Bool → Bool → Bool) → List Bool
timers g =
    g true true true ∷ g true true false ∷ g true false true ∷ g true false false ∷ g false true true ∷ g false true false ∷ g false false true ∷ g false false false ∷ []

of_timers : (g h : Bool → Bool → Bool → Bool) → timers g ≡ timers h → (a b c : Bool) → g a b c ≡ h a b c
of_timers g h e true true true = ap (λ l. get_or l 0 true) e
of_timers g h e true true false = ap (λ l. get_or l 1 true) e
of_timers g h e true false true = ap (λ l. get_or l 2 true) e
of_timers g h e true false false = ap (λ l. get_or l 3 true) e
of_timers g h e false true true = ap (λ l. get_or l 4 true) e
of_timers g h e false true false = ap (λ l. get_or l 5 true) e
of_timers g h e false false true = ap (λ l. get_or l 6 true) e
of_timers g h e false false false = ap (λ l. get_or l 7 true) e

abbrev flags : (Bool → Bool → Bool) → List Bool
flags g = g true true ∷ g true false ∷ g false true ∷ g false false ∷ []

of_flags : (g h : Bool → Bool → Bool) → flags g ≡ flags h → (a b : Bool) → g a b ≡ h a b
of_flags g h e true true = ap (λ l. get_or l 0 true) e
of_flags g h e true false = ap (λ l. get_or l 1 true) e
of_flags g h e false true = ap (λ l. get_or l 2 true) e
of_flags g h e false false = ap (λ l. get_or l 3 true) e

abbrev both : (Ups → Ups) → List Ups
both g = g Ups.Normal ∷ g Ups.Emergency ∷ []

of_both : (g h : Ups → Ups) → both g ≡ both h → (u : Ups) → g u ≡ h u
of_both g h e Ups.Normal = ap (λ l. get_or l 0 Ups.Normal) e
of_both g h e Ups.Emergency = ap (λ l. get_or l 1 Ups.Normal) e

-- what a number does everywhere: to the state, each timer, each flag and UPS
record Deeds : Type 0 where
  states : List State
  first : List Bool
  second : List Bool
  third : List Bool
  ins_flag : List Bool
  lpo_flag : List Bool
  user : List Ups

abbrev done : ℕ → Deeds
done n =
    record {
      states = eight (state_after n);
      first = timers (λ a b c. eqb (timers_after n a b c % 2) 1);
      second = timers (λ a b c. eqb (timers_after n a b c / 2 % 2) 1);
      third = timers (λ a b c. eqb (timers_after n a b c / 4 % 2) 1);
      ins_flag = flags (λ a b. eqb (flags_after n a b % 2) 1);
      lpo_flag = flags (λ a b. eqb (flags_after n a b / 2 % 2) 1);
      user = both (ups_after n);
    }

abbrev meant : ℕ → Deeds
meant n =
    record {
      states = eight (over (state_op n));
      first = timers (λ a b c. over (flag_op (n / 64 % 2) (n / 512 % 2)) a);
      second = timers (λ a b c. over (flag_op (n / 128 % 2) (n / 1024 % 2)) b);
      third = timers (λ a b c. over (flag_op (n / 256 % 2) (n / 2048 % 2)) c);
      ins_flag = flags (λ a b. over (flag_op (n / 4096 % 2) (n / 16384 % 2)) a);
      lpo_flag = flags (λ a b. over (flag_op (n / 8192 % 2) (n / 32768 % 2)) b);
      user = both (over (ups_op n));
    }

all_numbers : from (λ c. done (number_at c)) 0 64 ≡ from (λ c. meant (number_at c)) 0 64
unfolding number_at
all_numbers = refl

as_meant : (n : ℕ) → done n ≡ meant n → SoundNumber n
as_meant n e =
    record {
      states = of_eight (state_after n) (over (state_op n)) (ap (λ (d : Deeds). d.states) e);
      first = of_timers _ (λ a b c. over (flag_op (n / 64 % 2) (n / 512 % 2)) a) (ap (λ (d : Deeds). d.first) e);
      second = of_timers _ (λ a b c. over (flag_op (n / 128 % 2) (n / 1024 % 2)) b) (ap (λ (d : Deeds). d.second) e);
      third = of_timers _ (λ a b c. over (flag_op (n / 256 % 2) (n / 2048 % 2)) c) (ap (λ (d : Deeds). d.third) e);
      ins_flag = of_flags _ (λ a b. over (flag_op (n / 4096 % 2) (n / 16384 % 2)) a) (ap (λ (d : Deeds). d.ins_flag) e);
      lpo_flag = of_flags _ (λ a b. over (flag_op (n / 8192 % 2) (n / 32768 % 2)) b) (ap (λ (d : Deeds). d.lpo_flag) e);
      user = of_both (ups_after n) (over (ups_op n)) (ap (λ (d : Deeds). d.user) e);
    }

pub sound_number : (c : ℕ) → c < 64 → SoundNumber (number_at c)
sound_number c h = as_meant (number_at c) (alike (λ k. done (number_at k)) (λ k. meant (number_at k)) 64 (done 0) (all_numbers) c h)

-- and so do those of the two that go on with congestion
pub sound_confirmed : SoundNumber confirmed
sound_confirmed = as_meant confirmed refl

pub sound_indicated : SoundNumber indicated
sound_indicated = as_meant indicated refl
