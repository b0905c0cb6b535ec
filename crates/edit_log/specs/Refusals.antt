-- Why an edit is refused.
use Rattle.std.specs.Prelude.{◌≡◌, ℕ, IsFalse, List, length, slice_get, take, Some}
use Rattle.sheet_refs.specs.Cells.{Position}
use Rattle.sheet_refs.specs.Sizes.{is_inside}
use Rattle.sheet_model.specs.Changes.{ChangeValue}
use Rattle.sheet_model.specs.Edits.{EditValue, AreInSheet}
use Rattle.sheet_model.specs.Sheets.{SheetValue}
use Rattle.sheet_model.specs.declared.entry.Entry.{Entry}
use Rattle.edit_log.specs.declared.refused.PrepareRefused.{PrepareRefused}
use Rattle.edit_log.specs.declared.refused.PrepareRefused.TheVariants.{OutOfSheet, LogFull, Memory}

-- the first changed cell that is outside the sheet: the cells of all changes before it are inside
pub record IsFirstOutside (sheet : SheetValue) (edit : EditValue) (cell : Position) : Type 0 where
  pub place : ℕ
  pub change : ChangeValue
  pub stands : slice_get edit place ≡ Some change
  pub cell_is : change.cell ≡ cell
  pub outside : IsFalse (is_inside sheet.sizes cell)
  pub first : AreInSheet sheet (take place edit)

-- the cause of each refusal: a changed cell is outside the sheet, and this is the first one; or all are inside, and the log
-- has as many entries as may be
abbrev pub IsCause : SheetValue → List Entry → EditValue → PrepareRefused → Type 0
IsCause sheet log edit (OutOfSheet named) = IsFirstOutside sheet edit named
IsCause sheet log edit (LogFull count) = AreInSheet sheet edit × (count ≡ length log) × (length log ≡ 1048576)
IsCause sheet log edit Memory = Unit {0}
