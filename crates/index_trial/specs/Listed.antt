-- The ranges of a list as the entries of an index.
use Rattle.std.specs.Prelude.{◌≡◌, ◌↔◌, ℕ, ◌<◌, ◌≤◌, List, Some, Contains}
use Rattle.std.specs.List.{slice_get}
use Rattle.sheet_refs.specs.Cells.{Corners}
use Rattle.range_index.specs.Entries.{Entry}

-- an entry is one of the ranges between two places of a list, with its place as its id
pub record IsListedRange (ranges : List Corners) (first end : ℕ) (entry : Entry) : Type 0 where
  pub from : first ≤ entry.id
  pub below : entry.id < end
  pub range_is : slice_get ranges entry.id ≡ Some entry.range

-- the entries are these ranges
abbrev pub AreListed : List Entry → List Corners → ℕ → ℕ → Type 0
AreListed entries ranges first end = (entry : Entry) → Contains entries entry ↔ IsListedRange ranges first end entry
