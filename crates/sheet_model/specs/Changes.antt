-- Changes and edits, and what they do to a sheet.
use Rattle.std.specs.Prelude.{◌≡◌, ◌≢◌, if◌then◌else◌, IsTrue}
use Rattle.sheet_refs.specs.Cells.{Position}
use Rattle.sheet_refs.specs.Sizes.{is_inside}
use Rattle.sheet_model.specs.Sheets.{SheetValue, ContentValue, IsSheet, content_of, with_content}

-- a cell, and what it is to hold
pub record ChangeValue : Type 0 where
  pub cell : Position
  pub content : ContentValue

-- the sheet after a change, which outside the sheet does nothing
abbrev pub after_change : SheetValue → ChangeValue → SheetValue
after_change sheet change = if is_inside sheet.sizes change.cell then with_content sheet change.cell change.content else sheet

-- after a change of a cell of the sheet, that cell holds what the change says
abbrev pub ChangesFillTheirCell : Type 0
ChangesFillTheirCell =
    (sheet : SheetValue) (change : ChangeValue) → IsSheet sheet → IsTrue (is_inside sheet.sizes change.cell)
    → content_of (after_change sheet change) change.cell ≡ change.content

-- and every other cell what it held, also where the changed one is past the sheet
abbrev pub ChangesLeaveOtherCells : Type 0
ChangesLeaveOtherCells =
    (sheet : SheetValue) (change : ChangeValue) (cell : Position) → cell ≢ change.cell
    → content_of (after_change sheet change) cell ≡ content_of sheet cell
