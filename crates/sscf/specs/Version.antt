-- The version as a number, which a host holds against that of the header it was compiled with.
use Rattle.std.specs.Prelude.{ℕ, ◌+◌, ◌*◌}

abbrev pub numbered : (major minor patch : ℕ) → ℕ
numbered major minor patch = 1000000 * major + 1000 * minor + patch

abbrev pub version : ℕ
version = numbered 0 7 0
