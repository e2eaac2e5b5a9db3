-- `signal::carrying` meets its contract: each arm is what the word has with nothing brought.
use Rattle.std.proofs.Common.{◌≡◌, ℕ, ◌≤◌, refl, arith}
use Rattle.signal.specs.Writing.{carrying_at}
use Rattle.signal.proofs.SignalRecord.{last_word}
use Rattle.signal.proofs.carrying.Goals as goal

last : (w : ℕ) → 46 ≤ w → carrying_at 46 ≡ carrying_at w
last w h = rw (last_word w h) refl

pub returns-in_default : goal.returns-in_default
returns-in_default c = last c.args.w (omega arith)
