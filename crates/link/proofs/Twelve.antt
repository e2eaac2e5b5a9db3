-- The twelve cases, by one computation. Assumes nothing.
use mathlib.Core.Path.{refl}
use Rattle.table6.proofs.Unfolded.{every_row}
use Rattle.link.specs.Step.{step_of}
use Rattle.link.specs.Twelve.{Twelve}

pub all_twelve : Twelve
unfolding step_of every_row
all_twelve r = refl
