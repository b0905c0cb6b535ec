-- What may be looked at.
use Rattle.std.specs.Prelude.{◌≤◌, length}
use Rattle.edit_log.specs.Rows.{IsInside}
use Rattle.sheet_model.specs.Sheets.{SheetValue}
use Rattle.sheet_refs.specs.Cells.{Corners, cells_of}

-- the window lies within the sheet, and a board of three cells has room for it
pub record IsWindow (sheet : SheetValue) (window : Corners) : Type 0 where
  pub inside : IsInside sheet.sizes window
  pub room : length (cells_of window) ≤ 3
