-- Filling a sheet, field by field.
use Rattle.std.specs.Prelude.{◌≡◌, ◌<◌, ℕ, List, []}
use Rattle.formula_syntax.specs.declared.edition.Edition.TheVariants.{One}
use Rattle.sheet_model.specs.Fields.{IsContent}
use Rattle.sheet_model.specs.Sheets.{ContentValue, SheetValue, IsSheet, content_of, with_content}
use Rattle.live_gen.specs.Rows.{cell_there, field_of, generated_sizes}

-- what a text writes was put into the cell of a row and a column, both counted from 0
pub record PutsField (row col : ℕ) (text : List ℕ) (old new : SheetValue) : Type 0 where
  pub content : ContentValue
  pub writes : IsContent One [] text content
  pub placed : new ≡ with_content old (cell_there row col) content
  pub kept : IsSheet new

-- so many fields of a row, for which a number was drawn, were put into it, and the rows above hold what they held
pub record FillsRow (row drawn count : ℕ) (old new : SheetValue) : Type 0 where
  pub kept : IsSheet new
  pub edition_is : new.edition ≡ One
  pub sizes_are : new.sizes ≡ generated_sizes
  pub labels_are : new.labels ≡ []
  pub filled : (col : ℕ) → col < count → IsContent One [] (field_of drawn row col) (content_of new (cell_there row col))
  pub above : (r col : ℕ) → r < row → content_of new (cell_there r col) ≡ content_of old (cell_there r col)
