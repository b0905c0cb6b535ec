-- The ranges of all formulas of a sheet in one list, one cell behind the other, row by row.
use Rattle.std.specs.Prelude.{◌≡◌, ℕ, ◌+◌, ◌≤◌, ◌<◌, List, length, slice_index, slice_index_or, slice_range}
use Rattle.sheet_refs.specs.Cells.{Corners}
use Rattle.sheet_refs.specs.Refs.{AreRefs}
use Rattle.sheet_refs.specs.Sizes.{cell_count}
use Rattle.formula_syntax.specs.Listing.{IsOnceEach}
use Rattle.sheet_model.specs.Ranges.{ranges_in}
use Rattle.sheet_model.specs.Sheets.{SheetValue, ContentValue, Constant}
use Rattle.value_core.specs.declared.value.Value.TheVariants.{Empty}
use Rattle.edit_log.specs.declared.listing.Listing.{Listing}

-- what stands at a place among the cells, row by row
abbrev pub content_at : List ContentValue → ℕ → ContentValue
content_at contents place = slice_index_or contents place (Constant Empty)

-- the ranges between two bounds are those that a content names, each once
pub record IsPart (content : ContentValue) (ranges : List Corners) (from end : ℕ) : Type 0 where
  pub order : from ≤ end
  pub within : end ≤ length ranges
  pub once : IsOnceEach (ranges_in content) (slice_range ranges from end)
  pub refs : AreRefs (slice_range ranges from end)

-- the ranges of so many contents, with the bounds between which those of each stand
pub record AreListed (contents : List ContentValue) (count : ℕ) (ranges : List Corners) (bounds : List ℕ) : Type 0 where
  pub many : length bounds ≡ count + 1
  pub last : slice_index bounds count ≡ length ranges
  pub parts : (place : ℕ) → place < count → IsPart (content_at contents place) ranges (slice_index bounds place) (slice_index bounds (place + 1))

-- a list has the ranges of the first cells of a sheet, and of all
abbrev pub ListsFirst : SheetValue → ℕ → Listing → Type 0
ListsFirst sheet count listing = AreListed sheet.contents count listing.ranges.items listing.bounds.items

abbrev pub ListsAll : SheetValue → Listing → Type 0
ListsAll sheet listing = ListsFirst sheet (cell_count sheet.sizes) listing
