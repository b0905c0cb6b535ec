-- What a board shows of what was seen of the words of a cell.
use Rattle.std.specs.Prelude.{◌≡◌, ℕ, IsTrue, List, length}
use Rattle.sheet_refs.specs.Cells.{Position}
use Rattle.sheet_refs.specs.Sizes.{is_inside, place_of}
use Rattle.value_core.specs.Decoding.{value_of_word}
use Rattle.value_core.specs.declared.value.Value.{Value}
use Rattle.value_core.specs.Values.{IsValue, code_of}
use Rattle.mark_core.specs.declared.answers.Seen.{Seen}
use Rattle.mark_core.specs.declared.answers.Seen.TheVariants as seen
use Rattle.sheet_model.specs.Logs.{AreHeld, IsOfSheet, after}
use Rattle.sheet_model.specs.Sheets.{IsSheet, SheetValue}
use Rattle.sheet_model.specs.Values.{value_of}
use Rattle.sheet_model.specs.declared.board.Shown.{Shown}
use Rattle.sheet_model.specs.declared.board.Shown.TheVariants as shown
use Rattle.sheet_model.specs.declared.entry.Entry.{Entry}

-- the value for which a word stands, or the number of an edit
abbrev pub shown_of_seen : Seen → Shown
shown_of_seen (seen.Value word) = shown.Value (value_of_word word)
shown_of_seen (seen.Stale number) = shown.Stale number
shown_of_seen (seen.Newer number) = shown.Newer number

-- of the code of a value a board shows that value
abbrev pub CodesShowTheirValues : Type 0
CodesShowTheirValues = (value : Value) → IsValue value → shown_of_seen (seen.Value (code_of value)) ≡ shown.Value value

-- of the worth of a cell's place, where places and worths are those of a sheet, the value that the cell has after the log
abbrev pub WorthsShowTheirValues : Type 0
WorthsShowTheirValues =
    (opening : SheetValue) (places : ℕ) (worth : List Entry → ℕ → ℕ) (log : List Entry) (cell : Position)
    → IsOfSheet opening places worth → IsSheet opening → AreHeld (length opening.labels) log → IsTrue (is_inside opening.sizes cell)
    → shown_of_seen (seen.Value (worth log (place_of opening.sizes cell))) ≡ shown.Value (value_of (after opening log) cell)

-- and of a mark its number, stale where it was seen as stale and newer where it was seen as newer
abbrev pub StaleMarksAreShown : Type 0
StaleMarksAreShown = (number : ℕ) → shown_of_seen (seen.Stale number) ≡ shown.Stale number

abbrev pub NewerMarksAreShown : Type 0
NewerMarksAreShown = (number : ℕ) → shown_of_seen (seen.Newer number) ≡ shown.Newer number
