-- A cell says as many signals as its number counts. Assumes nothing.
use mathlib.Core.Path.{◌≡◌, refl, ap, ◌∙◌}
use Prim.Native.Nat.{ℕ, zero, suc, ◌/◌}
use lib.ListN.{length}
use Rattle.std.proofs.lemmas.List.{length-map}
use Rattle.table6.specs.Stored.{word_at, lowest, said}
use Rattle.link.specs.Stored.{Given, meant_by, signals_of}

length_lowest : (n r : ℕ) → length (lowest n r) ≡ n
length_lowest zero r = refl
length_lowest (suc n) r = ap suc (length_lowest n (r / 256))

-- a step says as many signals as it counts
pub as_many : (count words : ℕ) (o : Given) → length (signals_of count words o) ≡ count
unfolding signals_of
as_many count words o = length-map (said count words) (meant_by o) ∙ length-map (lowest count words) word_at ∙ length_lowest count words
