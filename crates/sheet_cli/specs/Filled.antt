-- What `fill` is asked for and writes.
use Rattle.std.specs.Prelude.{◌≢◌, ℕ, List, IsTrue, Ok}
use Rattle.sheet_refs.specs.Cells.{Corners, IsOrdered, Position}
use Rattle.sheet_refs.specs.Sizes.{is_inside}
use Rattle.value_core.specs.declared.value.Value.TheVariants.{Label}
use Rattle.csv_sheet.specs.Results.{IsSheetResult}
use Rattle.edit_script.specs.Scripts.{IsScript, ScriptValue, ground_of}
use Rattle.edit_script.specs.declared.script.Mode.{Mode}
use Rattle.sheet_fill.specs.FilledTexts.{SaysEdit}
use Rattle.sheet_fill.specs.Filling.{HasNoOthers, HasTooMany, filled}
use Rattle.sheet_model.specs.Sheets.{Constant, SheetValue, content_of}
use Rattle.window_text.specs.Changes.{batch_text}
use Rattle.sheet_model.specs.Sheets.{IsWithinSheet}

-- the sheet has the cell that is copied, and the whole range that is filled
abbrev pub HasPlaces : Position → Corners → SheetValue → Type 0
HasPlaces from to sheet = IsTrue (is_inside sheet.sizes from) × IsWithinSheet to sheet

-- the range has other cells than that one, and not too many for an edit
pub record CanFill (from : Position) (to : Corners) : Type 0 where
  pub some : ¬ HasNoOthers from to
  pub few : (count : ℕ) → ¬ HasTooMany from to count

-- the lines of the edit that fills a range
abbrev pub filled_text : SheetValue → Position → Corners → List ℕ
filled_text sheet from to = batch_text sheet.labels (filled sheet from to)

-- Where the cell holds no label, and what is written is a script over the sheet of the text, it is one step of the client
-- `main`, with the edit that fills the range.
abbrev pub FilledTextIsItsEdit : Type 0
FilledTextIsItsEdit =
    (text : List ℕ) (sheet : SheetValue) (from : Position) (to : Corners) (mode : Mode) (labels : List (List ℕ)) (script : ScriptValue)
    → IsSheetResult text (Ok sheet) → HasPlaces from to sheet → IsOrdered to.head to.tail
    → ((place : ℕ) → content_of sheet from ≢ Constant (Label place))
    → IsScript mode (ground_of sheet) sheet.labels labels (filled_text sheet from to) script
    → SaysEdit sheet (filled sheet from to) labels script
