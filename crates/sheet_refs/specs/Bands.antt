-- Columns side by side, in bands of columns with the same rows. A band is known by its first column, and goes on up to the
-- column before the next band's first.
use Rattle.std.specs.Prelude.{◌≡◌, ℕ, zero, suc, ◌+◌, ◌≤◌, ◌<◌, Option, None, Some, IfSome, List, [], ◌++◌}
use Rattle.std.specs.Option.{unwrap_or}
use Rattle.std.specs.Ordering.{nat_cmp}
use Rattle.std.specs.BTreeMap.{BTreeMap, get}
use Rattle.sheet_refs.specs.Cells.{Corners}
use Rattle.sheet_refs.specs.Runs.{AreGaps, GainsRows, HasRow, HasRoom, HaveSameRanges, column_ranges, last_from}

-- the runs of rows of a column, counted from 1: those of the last band that begins at it or to the left of it
abbrev pub rows_under : (ℕ → Option (List (ℕ × ℕ))) → ℕ → List (ℕ × ℕ)
rows_under band zero = unwrap_or (band zero) []
rows_under band (suc col) = unwrap_or (band (suc col)) (rows_under band col)

-- the same of bands kept in a map
abbrev pub rows_at : BTreeMap ℕ (List (ℕ × ℕ)) → ℕ → List (ℕ × ℕ)
rows_at bands = rows_under (get nat_cmp bands)

-- the runs of so many columns, from a first one on
abbrev pub ranges_in : (ℕ → List (ℕ × ℕ)) → ℕ → ℕ → List Corners
ranges_in rows col zero = []
ranges_in rows col (suc count) = column_ranges col (rows col) ++ ranges_in rows (col + 1) count

-- the runs of all columns, A to XFD
unfoldable pub all_ranges : (ℕ → List (ℕ × ℕ)) → List Corners
all_ranges rows = ranges_in rows 1 16384

-- each band that begins at one of some columns, from a left one to the one before the end, has room to hold the row
abbrev pub HaveRoom : (ℕ → Option (List (ℕ × ℕ))) → ℕ → ℕ → ℕ → Type 0
HaveRoom band left end row = (col : ℕ) → left ≤ col → col < end → IfSome (band col) (λ runs. HasRoom (last_from runs) row)

-- a band is there as before, with other rows that stand in some relation to its own
abbrev pub Becomes : (List (ℕ × ℕ) → List (ℕ × ℕ) → Type 0) → Option (List (ℕ × ℕ)) → Option (List (ℕ × ℕ)) → Type 0
Becomes Change None None = Unit {0}
Becomes Change None (Some after) = ⊥
Becomes Change (Some before) None = ⊥
Becomes Change (Some before) (Some after) = Change before after

-- it has the same ranges in every column, or has gained some rows
abbrev pub StaysBand : Option (List (ℕ × ℕ)) → Option (List (ℕ × ℕ)) → Type 0
StaysBand = Becomes HaveSameRanges

abbrev pub GainsInBand : ℕ → ℕ → Option (List (ℕ × ℕ)) → Option (List (ℕ × ℕ)) → Type 0
GainsInBand first last = Becomes (λ before after. GainsRows before after first last)

-- the bands that begin at some columns, from a left one to the one before the end, have gained some rows, and the others are
-- as they were
pub record AreFilled (old new : ℕ → Option (List (ℕ × ℕ))) (left end first last : ℕ) : Type 0 where
  pub filled : (col : ℕ) → left ≤ col → col < end → GainsInBand first last (old col) (new col)
  pub before : (col : ℕ) → col < left → new col ≡ old col
  pub after : (col : ℕ) → end ≤ col → new col ≡ old col

-- columns, from a left one to the one before the end, that lack the same rows
abbrev pub LackRows : (ℕ → List (ℕ × ℕ)) → ℕ → ℕ → ℕ → ℕ → List (ℕ × ℕ) → Type 0
LackRows rows left end first below gaps = (col : ℕ) → left ≤ col → col < end → AreGaps (HasRow (rows col)) first below gaps
