-- What becomes of a list's length and of its last time, as orders are followed and timers named. Assumes nothing.
use Prim.Native.Nat.{ℕ, ◌*◌, ◌<◌}
use native.Mathlib.Omega.{arith}
use mathlib.Core.Path.{◌≡◌, refl}
use mathlib.Core.List.{List}
use lib.ListN.{length, set, length-set}
use lib.Seq.{get_or-set_same}
use Rattle.keeper.specs.Deadlines.{Order, Set, Reset, none, idle, place_of, last_time, followed}
use Rattle.keeper.specs.Due.{Named, nothing, one, left}

pub length_followed : (o : Order) (d : List ℕ) (link t3 time : ℕ) → length (followed o d link t3 time) ≡ length d
length_followed (Set t) d link t3 time = length-set d _ _
length_followed (Reset t) d link t3 time = length-set d _ _
length_followed none d link t3 time = refl

-- the last time once something was named
pub time_left : (x : Named) (d : List ℕ) (n time : ℕ) → 3 * n < length d → last_time (left x d n time) n ≡ time
time_left nothing d n time h = get_or-set_same d (3 * n) time 0 h
time_left (one link t) d n time h = get_or-set_same (set d (place_of link t) idle) (3 * n) time 0 (omega (arith, length-set d (place_of link t) idle))
