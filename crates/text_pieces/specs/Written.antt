-- Texts that are written into an array, from their last byte to their first.
use Rattle.std.specs.Prelude.{◌≡◌, ℕ, List, ◌++◌, drop}

-- a text was written in front of what stands from one place on, and now begins at another
pub record Writes (old new text : List ℕ) (end start : ℕ) : Type 0 where
  pub stands : drop start new ≡ text ++ drop end old
