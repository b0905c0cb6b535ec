-- The ranges that a formula refers to.
use Rattle.std.specs.Prelude.{◌≤◌, ◌≢◌, List, length, AllPairs}
use Rattle.sheet_refs.specs.Cells.{Corners}

-- no range stands twice
abbrev pub AreDistinct : List Corners → Type 0
AreDistinct ranges = AllPairs (λ a b. a ≢ b) ranges

-- what a formula may refer to: each range once, and at most 255
pub record AreRefs (ranges : List Corners) : Type 0 where
  pub distinct : AreDistinct ranges
  pub few : length ranges ≤ 255
