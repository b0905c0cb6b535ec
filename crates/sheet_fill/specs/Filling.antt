-- Filling a range with the content of a cell, as a copy reads in each other cell.
use Rattle.std.specs.Prelude.{◌≡◌, ℕ, ℤ, pos, ◌-ℤ◌, ◌==◌, ◌<◌, Bool, ◌&&◌, not, List, length, map, filter}
use Rattle.sheet_refs.specs.Cells.{Position, Corners, cells_of}
use Rattle.formula_syntax.specs.Shifting.{shifted}
use Rattle.sheet_model.specs.Changes.{ChangeValue}
use Rattle.sheet_model.specs.Edits.{EditValue}
use Rattle.sheet_model.specs.Sheets.{SheetValue, ContentValue, Constant, Computed, content_of}

-- whether two cells are one
abbrev pub is_cell : Position → Position → Bool
is_cell a b = (a.row == b.row) && (a.col == b.col)

-- the cells of a range other than one, row by row
abbrev pub others_of : Position → Corners → List Position
others_of from range = filter (λ cell. not (is_cell from cell)) (cells_of range)

-- the way from one row or column to another
abbrev pub way : ℕ → ℕ → ℤ
way from to = pos to -ℤ pos from

-- what a cell's content is as a copy in another cell: a formula is shifted by the way there, and all else stays
abbrev pub copied : Position → Position → ContentValue → ContentValue
copied from to (Constant value) = Constant value
copied from to (Computed tree) = Computed (shifted (way from.row to.row) (way from.col to.col) tree)

-- a cell gets the copy of another one's content
abbrev pub fills_cell : SheetValue → Position → Position → ChangeValue
fills_cell sheet from cell = record { cell = cell; content = copied from cell (content_of sheet from) }

-- the edit that fills a range: one change for each of its other cells, row by row
abbrev pub filled : SheetValue → Position → Corners → EditValue
filled sheet from range = map (fills_cell sheet from) (others_of from range)

-- there is nothing to fill: the range has no other cell
abbrev pub HasNoOthers : Position → Corners → Type 0
HasNoOthers from range = (range.head ≡ from) × (range.tail ≡ from)

-- there are so many other cells, more than an edit may change
pub record HasTooMany (from : Position) (range : Corners) (count : ℕ) : Type 0 where
  pub counted : count ≡ length (others_of from range)
  pub many : 1024 < count
