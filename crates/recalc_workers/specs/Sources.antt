-- Where settling takes the words of cells from.
use Rattle.std.specs.Prelude.{◌≡◌, IsTrue, ℕ, List}
use Rattle.sheet_refs.specs.Cells.{Position}
use Rattle.sheet_refs.specs.Sizes.{is_inside}
use Rattle.value_core.specs.Values.{code_of}
use Rattle.sheet_model.specs.Sheets.{SheetValue, content_of, content_value}
use Rattle.sheet_model.specs.Values.{value_of, HasCode}
use Rattle.recalc_workers.specs.declared.cell_words.Source.{Source}
use Rattle.recalc_workers.specs.declared.cell_words.Source.TheVariants.{Inputs, Word}

-- what is in the cell, or the code of its value
abbrev pub IsSourceOf : SheetValue → Position → Source → Type 0
IsSourceOf sheet cell (Inputs content) = content_value content.now ≡ content_of sheet cell
IsSourceOf sheet cell (Word word) = code_of (value_of sheet cell) ≡ word

-- a cell of the rectangle, the code of whose value is at its place
pub record HasCodeInside (sheet : SheetValue) (codes : List ℕ) (cell : Position) : Type 0 where
  pub inside : IsTrue (is_inside sheet.sizes cell)
  pub code : HasCode sheet codes cell
