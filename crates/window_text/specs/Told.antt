-- What the text of a live run tells: the names of the clients, the log, the closing values and the reports, where each label
-- is the text that it has and each entry's client its name.
use Rattle.std.specs.Prelude.{◌≡◌, ◌<◌, ◌^◌, ℕ, ℤ, Bool, List, length, map, slice_index_or, All}
use Rattle.sheet_refs.specs.Cells.{Position, Corners, IsNamed, cells_of}
use Rattle.sheet_refs.specs.declared.sizes.Sizes.{Sizes}
use Rattle.value_core.specs.declared.value.ErrorKind.{ErrorKind}
use Rattle.value_core.specs.declared.value.Value.{Value}
use Rattle.value_core.specs.declared.value.Value.TheVariants as value
use Rattle.value_core.specs.Values.{IsValue}
use Rattle.formula_syntax.specs.Tree.{Tree}
use Rattle.sheet_model.specs.Boards.{BoardValue}
use Rattle.sheet_model.specs.Changes.{ChangeValue}
use Rattle.sheet_model.specs.Edits.{HasName, IsWholeEdit}
use Rattle.sheet_model.specs.Labels.{label_text}
use Rattle.sheet_model.specs.Sheets.{SheetValue, ContentValue, Constant, Computed, IsSheet}
use Rattle.sheet_model.specs.Values.{value_of}
use Rattle.sheet_model.specs.declared.board.Shown.{Shown}
use Rattle.sheet_model.specs.declared.board.Shown.TheVariants as shown
use Rattle.sheet_model.specs.declared.entry.Entry.{Entry}
use Rattle.window_text.specs.Reports.{place_in}
use Rattle.window_text.specs.Transcripts.{TranscriptValue, live_text, name_at, whole_range}
use Rattle.sheet_model.specs.declared.report.Report.{Report}

-- a value, of which a label is a text
pub data ToldValue : Type 0 where
  Nothing : ToldValue
  Number : ℤ → ToldValue
  Truth : Bool → ToldValue
  Error : ErrorKind → ToldValue
  Text : List ℕ → ToldValue

abbrev pub told_value : List (List ℕ) → Value → ToldValue
told_value labels value.Empty = Nothing
told_value labels (value.Number number) = Number number
told_value labels (value.Truth truth) = Truth truth
told_value labels (value.Error kind) = Error kind
told_value labels (value.Label place) = Text (label_text labels place)

-- what is shown of a cell: a value, or the number of an edit for which it waits, or that of a newer one
pub data ToldCell : Type 0 where
  Shows : ToldValue → ToldCell
  Waits : ℕ → ToldCell
  Passed : ℕ → ToldCell

abbrev pub told_shown : List (List ℕ) → Shown → ToldCell
told_shown labels (shown.Value value) = Shows (told_value labels value)
told_shown labels (shown.Stale number) = Waits number
told_shown labels (shown.Newer number) = Passed number

-- what a cell is to hold: a value, or a formula
pub data ToldContent : Type 0 where
  Holds : ToldValue → ToldContent
  Computes : Tree → ToldContent

abbrev pub told_content : List (List ℕ) → ContentValue → ToldContent
told_content labels (Constant value) = Holds (told_value labels value)
told_content labels (Computed formula) = Computes formula

-- a change of a cell
pub record ToldChange : Type 0 where
  pub cell : Position
  pub content : ToldContent

abbrev pub told_change : List (List ℕ) → ChangeValue → ToldChange
told_change labels change = record { cell = change.cell; content = told_content labels change.content }

-- an entry: the name of its client, and its changes, in order
pub record ToldEntry : Type 0 where
  pub client : List ℕ
  pub changes : List ToldChange

abbrev pub told_entry : List (List ℕ) → List (List ℕ) → Entry → ToldEntry
told_entry names labels entry = record { client = name_at names entry.client; changes = map (told_change labels) entry.edit }

-- a report: whether it is firm, the number of edits, the window, and what is shown of its cells, row by row
pub record ToldReport : Type 0 where
  pub firm : Bool
  pub number : ℕ
  pub window : Corners
  pub cells : List ToldCell

-- what a board shows of a cell of its window
abbrev pub told_at : List (List ℕ) → BoardValue → Position → ToldCell
told_at labels board cell = told_shown labels (slice_index_or board.cells (place_in board.window cell) (shown.Stale 0))

abbrev pub told_report : List (List ℕ) → Report → ToldReport
told_report labels report = record {
  firm = report.firm;
  number = report.board.number;
  window = report.board.window;
  cells = map (told_at labels report.board) (cells_of report.board.window);
}

-- all of a run: the log, the clients' names, the reports of each, and the sizes and the values of the closing sheet, row by row
pub record ToldRun : Type 0 where
  pub log : List ToldEntry
  pub names : List (List ℕ)
  pub reports : List (List ToldReport)
  pub sizes : Sizes
  pub values : List ToldValue

abbrev pub told_cell : SheetValue → Position → ToldValue
told_cell sheet cell = told_value sheet.labels (value_of sheet cell)

abbrev pub told_values : SheetValue → List ToldValue
told_values sheet = map (told_cell sheet) (cells_of (whole_range sheet.sizes))

abbrev pub told_reports : List (List ℕ) → List Report → List ToldReport
told_reports labels reports = map (told_report labels) reports

abbrev pub told_run : TranscriptValue → ToldRun
told_run t = record {
  log = map (told_entry t.names t.sheet.labels) t.log;
  names = t.names;
  reports = map (told_reports t.sheet.labels) t.reports;
  sizes = t.sheet.sizes;
  values = told_values t.sheet;
}

-- a byte that no name has: a space or a line's end
pub data IsGap (byte : ℕ) : Type 0 where
  line : byte ≡ 10 → IsGap byte
  space : byte ≡ 32 → IsGap byte

-- a name is one word
abbrev pub IsOneWord : List ℕ → Type 0
IsOneWord name = All (λ byte. ¬ IsGap byte) name

-- a cell has a value in range, or the number of an edit
abbrev pub IsCounted : Shown → Type 0
IsCounted (shown.Value value) = IsValue value
IsCounted (shown.Stale number) = number < 2 ^ 64
IsCounted (shown.Newer number) = number < 2 ^ 64

-- a report whose window has names, whose numbers can be counted, and whose values are in range
pub record IsTellableReport (report : Report) : Type 0 where
  pub number : report.board.number < 2 ^ 64
  pub head : IsNamed report.board.window.head.row report.board.window.head.col
  pub tail : IsNamed report.board.window.tail.row report.board.window.tail.col
  pub cells : All IsCounted report.board.cells

-- an entry whose changes may be made, of cells that have names
pub record IsTellableEntry (entry : Entry) : Type 0 where
  pub edit : IsWholeEdit entry.edit
  pub cells : All (λ (change : ChangeValue). HasName change.cell) entry.edit

-- a run whose clients have names of one word each, and their reports each; whose entries and reports can be told, and whose
-- closing sheet is a sheet
pub record IsTellableRun (t : TranscriptValue) : Type 0 where
  pub words : All IsOneWord t.names
  pub few : length t.log < 2 ^ 64
  pub entries : All IsTellableEntry t.log
  pub lists : length t.reports ≡ length t.names
  pub reports : All (All IsTellableReport) t.reports
  pub sheet : IsSheet t.sheet

-- such runs that have one text tell one thing
abbrev pub TextsTellOneRun : Type 0
TextsTellOneRun =
    (t u : TranscriptValue) → IsTellableRun t → IsTellableRun u → live_text t ≡ live_text u → told_run t ≡ told_run u
