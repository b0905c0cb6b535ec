-- What a legal run tells, by places in lists and by numbers.
use Rattle.std.specs.Prelude.{◌≡◌, ◌<◌, ◌≤◌, ◌-◌, ◌⊎◌, ℕ, true, false, List, [], ◌∷◌, Some, length, take, slice_get}
use Rattle.sheet_refs.specs.Cells.{Corners, Position, cells_of}
use Rattle.edit_log.specs.Touches.{Touches}
use Rattle.edit_script.specs.Scripts.{ScriptValue}
use Rattle.edit_script.specs.declared.script.Command.TheVariants as asks
use Rattle.edit_script.specs.declared.script.Step.{Step}
use Rattle.formula_syntax.specs.Tree.{Tree}
use Rattle.sheet_model.specs.Edits.{EditValue}
use Rattle.sheet_model.specs.Logs.{after}
use Rattle.sheet_model.specs.Sheets.{SheetValue, Computed, content_of}
use Rattle.sheet_model.specs.Values.{value_of}
use Rattle.sheet_model.specs.declared.board.Shown.{Shown}
use Rattle.sheet_model.specs.declared.board.Shown.TheVariants.{Value, Stale, Newer}
use Rattle.sheet_model.specs.declared.entry.Entry.{Entry}
use Rattle.sheet_model.specs.declared.report.Report.{Report}
use Rattle.value_core.specs.declared.value.Value.{Value as CellValue}
use Rattle.window_text.specs.Transcripts.{TranscriptValue}
use Rattle.live_run.specs.Legal.{IsLegalTranscript, LookAsked, commands_by, edits_asked, edits_by, looks_asked, numbers_by}

-- a report stands at this place among those of a client
pub record Stands (t : TranscriptValue) (client place : ℕ) (report : Report) : Type 0 where
  pub reports : List Report
  pub of : slice_get t.reports client ≡ Some reports
  pub there : slice_get reports place ≡ Some report

-- it shows this of the cell at a place of its window, row by row
pub record ShowsAt (report : Report) (place : ℕ) (cell : Position) (shown : Shown) : Type 0 where
  pub cell_is : slice_get (cells_of report.board.window) place ≡ Some cell
  pub shown_is : slice_get report.board.cells place ≡ Some shown

-- a mark is shown, of an entry or of the load
abbrev pub IsMarkOf : ℕ → Shown → Type 0
IsMarkOf mark shown = (shown ≡ Stale mark) ⊎ (shown ≡ Newer mark)

-- the entry with this number, counted from 1, changes the cell, or one on which the cell depends just before it
abbrev pub TouchesAs : SheetValue → List Entry → Position → ℕ → Type 0
TouchesAs opening log cell number =
    (entry : Entry) × (1 ≤ number) × (slice_get log (number - 1) ≡ Some entry) × Touches opening (take (number - 1) log) entry cell

module _ (opening : SheetValue) (script : ScriptValue) (t : TranscriptValue) where
  abbrev pub IsLegal : Type 0
  IsLegal = IsLegalTranscript opening script t

  -- the clients are the script's, each with as many reports as it has looks
  abbrev pub ClientsAreTheScripts : Type 0
  ClientsAreTheScripts =
      IsLegal → (t.names ≡ script.names) × (length t.reports ≡ length script.names)
      × ((client : ℕ) (reports : List Report) → slice_get t.reports client ≡ Some reports
      → length reports ≡ length (looks_asked (commands_by client script.steps)))

  -- the log has each client's edits, in its order, and no others
  abbrev pub LogIsTheScripts : Type 0
  LogIsTheScripts =
      IsLegal → ((client : ℕ) → client < length script.names → edits_by client t.log ≡ edits_asked (commands_by client script.steps))
      × ((place : ℕ) (entry : Entry) → slice_get t.log place ≡ Some entry → entry.client < length script.names)

  -- a report is of the kind and of the window of its look, and shows something of each cell
  abbrev pub ReportsAreOfTheirLooks : Type 0
  ReportsAreOfTheirLooks =
      (client place : ℕ) (look : LookAsked) (report : Report) → IsLegal → Stands t client place report
      → slice_get (looks_asked (commands_by client script.steps)) place ≡ Some look
      → (report.firm ≡ look.firm) × (report.board.window ≡ look.window) × (length report.board.cells ≡ length (cells_of look.window))

  -- a number is within the log, and never falls for a client
  abbrev pub NumbersAreWithin : Type 0
  NumbersAreWithin = (client place : ℕ) (report : Report) → IsLegal → Stands t client place report → report.board.number ≤ length t.log

  abbrev pub NumbersNeverFall : Type 0
  NumbersNeverFall =
      (client place later : ℕ) (a b : Report) → IsLegal → Stands t client place a → Stands t client later b
      → place < later → a.board.number ≤ b.board.number

  -- a value is the one that one thread computes after as many entries as the report's number
  abbrev pub ValuesAreOfOneThread : Type 0
  ValuesAreOfOneThread =
      (client place at : ℕ) (report : Report) (cell : Position) (value : CellValue) → IsLegal → Stands t client place report
      → ShowsAt report at cell (Value value) → value ≡ value_of (after opening (take report.board.number t.log)) cell

  -- a firm report shows nothing else
  abbrev pub FirmReportsShowValues : Type 0
  FirmReportsShowValues =
      (client place at : ℕ) (report : Report) (shown : Shown) → IsLegal → Stands t client place report → report.firm ≡ true
      → slice_get report.board.cells at ≡ Some shown → (value : CellValue) × (shown ≡ Value value)

  -- a mark past the report's number is that of an entry that touches the cell
  abbrev pub LaterMarksTouch : Type 0
  LaterMarksTouch =
      (client place at mark : ℕ) (report : Report) (cell : Position) (shown : Shown) → IsLegal → Stands t client place report
      → ShowsAt report at cell shown → IsMarkOf mark shown → report.board.number < mark → TouchesAs opening t.log cell mark

  -- any other one is that of the last entry up to that number that touches the cell, or 0 where none does and the cell held a formula; and the
  -- cell waits for it
  abbrev pub OtherMarksAreLast : Type 0
  OtherMarksAreLast =
      (client place at mark : ℕ) (report : Report) (cell : Position) (shown : Shown) → IsLegal → Stands t client place report
      → ShowsAt report at cell shown → IsMarkOf mark shown → mark ≤ report.board.number
      → (shown ≡ Stale mark) × (1 ≤ mark → TouchesAs opening t.log cell mark)
      × ((later : ℕ) → mark < later → later ≤ report.board.number → TouchesAs opening t.log cell later → ⊥)
      × (mark ≡ 0 → (formula : Tree) × (content_of opening cell ≡ Computed formula))

  -- a cell whose value was shown to a client is marked later for an entry past that report's number alone
  abbrev pub ShownIsMarkedLater : Type 0
  ShownIsMarkedLater =
      (client place later at there mark : ℕ) (a b : Report) (cell : Position) (value : CellValue) (shown : Shown) → IsLegal
      → Stands t client place a → Stands t client later b → place < later
      → ShowsAt a at cell (Value value) → ShowsAt b there cell shown → IsMarkOf mark shown → a.board.number < mark

  -- the closing sheet is the one after the whole log
  abbrev pub ClosingIsAfterTheLog : Type 0
  ClosingIsAfterTheLog = IsLegal → t.sheet ≡ after opening t.log

-- Rows worked out by hand. Of two clients the second one edits, looks, edits again, looks firmly and works, and the first one edits once between;
module _ (a b c : EditValue) (v w : Corners) where
  abbrev pub row_steps : List Step
  row_steps =
      record { client = 1; command = asks.Put a } ∷ record { client = 1; command = asks.Look v } ∷ record { client = 0; command = asks.Put b }
      ∷ record { client = 1; command = asks.Put c } ∷ record { client = 1; command = asks.Firm w } ∷ record { client = 1; command = asks.Work 2 } ∷ []

  -- the second one asks for these edits, and for these looks,
  abbrev pub EditsOfARow : Type 0
  EditsOfARow = edits_asked (commands_by 1 row_steps) ≡ a ∷ c ∷ []

  abbrev pub LooksOfARow : Type 0
  LooksOfARow =
      looks_asked (commands_by 1 row_steps)
      ≡ record { firm = false; window = v; made = 1 } ∷ record { firm = true; window = w; made = 2 } ∷ []

  -- and in a log in which the first one's edit stands between, its edits have the numbers 1 and 3
  abbrev pub row_log : List Entry
  row_log = record { client = 1; edit = a } ∷ record { client = 0; edit = b } ∷ record { client = 1; edit = c } ∷ []

  abbrev pub NumbersOfARow : Type 0
  NumbersOfARow = (edits_by 1 row_log ≡ a ∷ c ∷ []) × (numbers_by 1 row_log ≡ 1 ∷ 3 ∷ [])
