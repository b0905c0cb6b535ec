-- What the commands print of reports, each of which is what was shown of a window after a number of edits.
use Rattle.std.specs.Prelude.{ℕ, ◌+◌, ◌-◌, ◌*◌, Bool, if◌then◌else◌, List, ◌∷◌, ◌++◌, slice_index_or, flat_map, codes}
use Rattle.std.specs.Fmt.{decimal}
use Rattle.sheet_refs.specs.Cells.{Position, Corners, width}
use Rattle.sheet_refs.specs.Names.{range_text}
use Rattle.sheet_model.specs.Boards.{BoardValue}
use Rattle.sheet_model.specs.declared.board.Shown.{Shown}
use Rattle.sheet_model.specs.declared.board.Shown.TheVariants as shown
use Rattle.window_text.specs.Texts.{rows_text, shown_value}
use Rattle.sheet_model.specs.declared.report.Report.{Report}

-- how what is shown of a cell is printed beside a table of labels: its value, or a sign and the number of an edit
abbrev pub shown_text : List (List ℕ) → Shown → List ℕ
shown_text labels (shown.Value value) = shown_value labels value
shown_text labels (shown.Stale number) = 126 ∷ decimal number
shown_text labels (shown.Newer number) = 94 ∷ decimal number

-- the place of a cell among those of its window, row by row, counted from 0
abbrev pub place_in : Corners → Position → ℕ
place_in window cell = (cell.row - window.head.row) * width window + (cell.col - window.head.col)

-- how a cell of a board is printed; a full board shows something of each
abbrev pub board_text : List (List ℕ) → BoardValue → Position → List ℕ
board_text labels board cell = shown_text labels (slice_index_or board.cells (place_in board.window cell) (shown.Stale 0))

-- a report: a line with its kind, the number of edits and the window's name, and the window's rows
abbrev pub report_kind : Bool → List ℕ
report_kind firm = if firm then codes "firm " else codes "look "

abbrev pub window_text : List (List ℕ) → BoardValue → List ℕ
window_text labels board = range_text board.window ++ (10 ∷ rows_text (board_text labels board) board.window)

abbrev pub report_text : List (List ℕ) → Report → List ℕ
report_text labels report = report_kind report.firm ++ (decimal report.board.number ++ (32 ∷ window_text labels report.board))

-- what `play` writes: its reports, one after the other
abbrev pub play_text : List (List ℕ) → List Report → List ℕ
play_text labels reports = flat_map (report_text labels) reports
