-- The whole numbers that a cell can have.
use Rattle.std.specs.Prelude.{ℤ, pos, negsuc, ◌≤ℤ◌}

-- from -(2^53-1) to 2^53-1: the whole numbers that a double holds without doubt
pub record IsWhole (number : ℤ) : Type 0 where
  pub least : negsuc 9007199254740990 ≤ℤ number
  pub most : number ≤ℤ pos 9007199254740991
