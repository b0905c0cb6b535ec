-- An index that keeps the rectangles of edges, or none.
use Rattle.std.specs.Prelude.{ℕ, List, Bool}
use Rattle.range_index.specs.Entries.{Entry}

-- whether rectangles are kept, those that are, and for how many more there is room
pub record Rectangles : Type 0 where
  pub kept : Bool
  pub entries : List Entry
  pub spare : ℕ
