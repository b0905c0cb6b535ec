-- The sheet of a generated run, field by field, as the text of a sheet would write it.
use Rattle.std.specs.Prelude.{◌≡◌, ◌<◌, ℕ, ◌+◌, ◌-◌, ◌*◌, ◌==◌, if◌then◌else◌, List, [], ◌∷◌, ◌++◌, slice_index_or, codes}
use Rattle.std.specs.Fmt.{decimal}
use Rattle.sheet_refs.specs.Cells.{Position}
use Rattle.sheet_refs.specs.declared.sizes.Sizes.{Sizes}
use Rattle.formula_syntax.specs.declared.edition.Edition.TheVariants.{One}
use Rattle.sheet_model.specs.Fields.{IsContent}
use Rattle.sheet_model.specs.Sheets.{SheetValue, IsSheet, content_of}
use Rattle.live_gen.specs.Draws.{draw_of}
use Rattle.live_gen.specs.declared.column.Column.{Column}
use Rattle.live_gen.specs.declared.column.Column.TheVariants.{A, B, C, D, E, F, G}

-- 1000 rows and 7 columns
abbrev pub generated_sizes : Sizes
generated_sizes = record { rows = 1000; cols = 7 }

-- what column C writes: the sum of the cells of column A so far, from the row above
abbrev pub chain_text : ℕ → List ℕ
chain_text row = if row == 1 then codes "=A1" else codes "=C" ++ (decimal (row - 1) ++ (codes "+A" ++ decimal row))

-- what a field writes, by its column, its row, and the number that was drawn for the row
abbrev pub field_text : Column → ℕ → ℕ → List ℕ
field_text A row drawn = decimal drawn
field_text B row drawn = codes "=SUM($A$1:A" ++ (decimal row ++ codes ")")
field_text C row drawn = chain_text row
field_text D row drawn = codes "=IF(A" ++ (decimal row ++ (codes ">500;B" ++ (decimal row ++ (codes ";C" ++ (decimal row ++ codes ")")))))
field_text E row drawn = codes "=A" ++ (decimal row ++ codes "*$A$1")
field_text F row drawn = codes "=SUM(A" ++ (decimal row ++ codes ":$A$1000)")
field_text G row drawn = codes "=MOD(B" ++ (decimal row ++ codes ";7)")

-- the columns, from left to right
abbrev pub columns : List Column
columns = A ∷ B ∷ C ∷ D ∷ E ∷ F ∷ G ∷ []

-- the field of a row and a column, both counted from 0, where this number was drawn for the row
abbrev pub field_of : ℕ → ℕ → ℕ → List ℕ
field_of drawn row col = field_text (slice_index_or columns col A) (row + 1) drawn

-- the draws for the rows are the first ones, in order
abbrev pub field_at : ℕ → ℕ → ℕ → List ℕ
field_at number row col = field_of (draw_of number (row + 1) 1000) row col

-- the cell in which that field stands
abbrev pub cell_there : ℕ → ℕ → Position
cell_there row col = record { row = row + 1; col = col + 1 }

-- the sheet has edition 1, these sizes and no labels, and its first so many cells, row by row, hold what their fields write
pub record HoldsFields (number count : ℕ) (sheet : SheetValue) : Type 0 where
  pub kept : IsSheet sheet
  pub edition_is : sheet.edition ≡ One
  pub sizes_are : sheet.sizes ≡ generated_sizes
  pub labels_are : sheet.labels ≡ []
  pub cells : (row col : ℕ) → col < 7 → row * 7 + col < count → IsContent One [] (field_at number row col) (content_of sheet (cell_there row col))

-- the sheet of a number: so do all of its cells
abbrev pub IsGeneratedSheet : ℕ → SheetValue → Type 0
IsGeneratedSheet number sheet = HoldsFields number 7000 sheet
