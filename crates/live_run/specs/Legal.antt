-- What a live run of a script may tell: one log with each client's edits, what each look showed, and the closing sheet.
use Rattle.std.specs.Prelude.{◌≡◌, ◌<◌, ◌≤◌, ◌+◌, ◌-◌, ◌==◌, ◌⊎◌, ℕ, Bool, true, false, if◌then◌else◌, List, [], ◌∷◌}
use Rattle.std.specs.Prelude.{Some, map, filter, flat_map, length, take, drop, slice_get, All, AllPairs}
use Rattle.std.specs.List.{AllZip}
use Rattle.sheet_refs.specs.Cells.{Position, Corners, cells_of}
use Rattle.edit_log.specs.Touches.{Touches}
use Rattle.edit_script.specs.Scripts.{ScriptValue}
use Rattle.edit_script.specs.declared.script.Command.{Command}
use Rattle.edit_script.specs.declared.script.Command.TheVariants as asks
use Rattle.edit_script.specs.declared.script.Step.{Step}
use Rattle.formula_syntax.specs.Tree.{Tree}
use Rattle.sheet_model.specs.Edits.{EditValue}
use Rattle.sheet_model.specs.Logs.{after}
use Rattle.sheet_model.specs.Sheets.{SheetValue, Computed, content_of}
use Rattle.sheet_model.specs.Values.{value_of}
use Rattle.sheet_model.specs.declared.board.Shown.{Shown}
use Rattle.sheet_model.specs.declared.board.Shown.TheVariants.{Value, Stale, Newer}
use Rattle.sheet_model.specs.declared.entry.Entry.{Entry}
use Rattle.value_core.specs.declared.value.Value.{Value as CellValue}
use Rattle.window_text.specs.Transcripts.{TranscriptValue}
use Rattle.sheet_model.specs.declared.report.Report.{Report}

-- the commands of a client of a script, in order
abbrev pub commands_by : ℕ → List Step → List Command
commands_by client steps = map (λ (step : Step). step.command) (filter (λ (step : Step). step.client == client) steps)

-- the edits among them, in order
abbrev pub edit_asked : Command → List EditValue
edit_asked (asks.Put edit) = edit ∷ []
edit_asked (asks.Look window) = []
edit_asked (asks.Firm window) = []
edit_asked (asks.Work turns) = []

abbrev pub edits_asked : List Command → List EditValue
edits_asked commands = flat_map edit_asked commands

-- a look among them: whether it is firm, its window, and how many of the client's edits stand before it
pub record LookAsked : Type 0 where
  pub firm : Bool
  pub window : Corners
  pub made : ℕ

-- all looks among commands that stand behind so many edits, in order
abbrev pub looks_behind : ℕ → List Command → List LookAsked
looks_behind made [] = []
looks_behind made (asks.Put edit ∷ commands) = looks_behind (made + 1) commands
looks_behind made (asks.Look window ∷ commands) = record { firm = false; window = window; made = made } ∷ looks_behind made commands
looks_behind made (asks.Firm window ∷ commands) = record { firm = true; window = window; made = made } ∷ looks_behind made commands
looks_behind made (asks.Work turns ∷ commands) = looks_behind made commands

abbrev pub looks_asked : List Command → List LookAsked
looks_asked commands = looks_behind 0 commands

-- the edits that a client has in a log, in order
abbrev pub edits_by : ℕ → List Entry → List EditValue
edits_by client log = map (λ (entry : Entry). entry.edit) (filter (λ (entry : Entry). entry.client == client) log)

-- and the numbers under which they stand there, where the first entry has this number
abbrev pub numbers_from : ℕ → ℕ → List Entry → List ℕ
numbers_from first client [] = []
numbers_from first client (entry ∷ log) =
    if entry.client == client then first ∷ numbers_from (first + 1) client log else numbers_from (first + 1) client log

-- entries are numbered from 1
abbrev pub numbers_by : ℕ → List Entry → List ℕ
numbers_by client log = numbers_from 1 client log

-- A report answers a look of a client: it is of the same kind and of the same window. Its number is within the log, and
-- covers exactly the client's own edits before the look: it is at least the number of each of these, and below that of
-- each later one.
pub record Answers (client : ℕ) (log : List Entry) (look : LookAsked) (report : Report) : Type 0 where
  pub firm_is : report.firm ≡ look.firm
  pub window_is : report.board.window ≡ look.window
  pub within : report.board.number ≤ length log
  pub covers : All (λ own. own ≤ report.board.number) (take look.made (numbers_by client log))
  pub precedes : All (λ own. report.board.number < own) (drop look.made (numbers_by client log))

-- The entry with this number touches the cell: it changes the cell, or one on which the cell depends just before it.
pub record IsTouchedBy (opening : SheetValue) (log : List Entry) (cell : Position) (number : ℕ) : Type 0 where
  pub counted : 1 ≤ number
  pub entry : Entry
  pub stands : slice_get log (number - 1) ≡ Some entry
  pub touched : Touches opening (take (number - 1) log) entry cell

-- It is the last of the first so many entries that touches the cell, or 0 where none of them does.
pub record IsLastOf (opening : SheetValue) (log : List Entry) (count : ℕ) (cell : Position) (number : ℕ) : Type 0 where
  pub within : number ≤ count
  pub touched : 1 ≤ number → IsTouchedBy opening log cell number
  pub none_later : (later : ℕ) → number < later → later ≤ count → IsTouchedBy opening log cell later → ⊥

-- the cell holds a formula
pub record HoldsFormula (sheet : SheetValue) (cell : Position) : Type 0 where
  pub formula : Tree
  pub held : content_of sheet cell ≡ Computed formula

-- The cell waits for the last of the first so many entries that touches it. It waits for the load, 0, only where it held
-- a formula then.
pub record WaitsForLast (opening : SheetValue) (log : List Entry) (count : ℕ) (cell : Position) (number : ℕ) : Type 0 where
  pub last : IsLastOf opening log count cell number
  pub load : number ≡ 0 → HoldsFormula opening cell

-- an entry behind the first so many touches the cell
pub record IsTouchedLater (opening : SheetValue) (log : List Entry) (count : ℕ) (cell : Position) (number : ℕ) : Type 0 where
  pub later : count < number
  pub touched : IsTouchedBy opening log cell number

-- What a look at a number of edits may show of a cell: the value that one thread computes of it after that many entries of
-- the log; or that it waits for the last of them that touches it, or for a later one that does; or that a later one that
-- does was computed already.
abbrev pub MayShow : SheetValue → List Entry → ℕ → Position → Shown → Type 0
MayShow opening log number cell (Value value) = value ≡ value_of (after opening (take number log)) cell
MayShow opening log number cell (Stale mark) = WaitsForLast opening log number cell mark ⊎ IsTouchedLater opening log number cell mark
MayShow opening log number cell (Newer mark) = IsTouchedLater opening log number cell mark

-- a value is shown
abbrev pub IsShownValue : Shown → Type 0
IsShownValue (Value value) = Unit {0}
IsShownValue (Stale mark) = ⊥
IsShownValue (Newer mark) = ⊥

-- each cell of a report's window, row by row, shows what it may; a firm report shows values alone
pub record IsLegalReport (opening : SheetValue) (log : List Entry) (report : Report) : Type 0 where
  pub cells : AllZip (MayShow opening log report.board.number) (cells_of report.board.window) report.board.cells
  pub values : report.firm ≡ true → All IsShownValue report.board.cells

-- a report shows this of a cell of its window
pub record Shows (report : Report) (cell : Position) (shown : Shown) : Type 0 where
  pub place : ℕ
  pub cell_is : slice_get (cells_of report.board.window) place ≡ Some cell
  pub shown_is : slice_get report.board.cells place ≡ Some shown

-- Of two reports of a client the later one has no smaller number; and a cell of which the earlier one shows the value
-- waits in the later one for an edit past the earlier one's number alone.
pub record StaysCurrent (earlier later : Report) : Type 0 where
  pub rises : earlier.board.number ≤ later.board.number
  pub stale : (cell : Position) (value : CellValue) (mark : ℕ) → Shows earlier cell (Value value) → Shows later cell (Stale mark) → earlier.board.number < mark
  pub newer : (cell : Position) (value : CellValue) (mark : ℕ) → Shows earlier cell (Value value) → Shows later cell (Newer mark) → earlier.board.number < mark

-- A client's part of a run: the log has each of its edits once, in its order, and no others of it; each of its looks is
-- answered, in its order; each report shows what it may; and no report goes back behind an earlier one.
pub record HasFollowed (opening : SheetValue) (log : List Entry) (client : ℕ) (commands : List Command) (reports : List Report) : Type 0 where
  pub edits : edits_by client log ≡ edits_asked commands
  pub answered : AllZip (Answers client log) (looks_asked commands) reports
  pub legal : All (IsLegalReport opening log) reports
  pub current : AllPairs StaysCurrent reports

-- A legal transcript of a script over a sheet: it has the script's clients, by name and in their order, each with its part
-- of the run; the log has no entries but theirs; and the closing sheet is the sheet after the whole log.
pub record IsLegalTranscript (opening : SheetValue) (script : ScriptValue) (t : TranscriptValue) : Type 0 where
  pub names_are : t.names ≡ script.names
  pub lists : length t.reports ≡ length script.names
  pub each : (client : ℕ) (reports : List Report) → slice_get t.reports client ≡ Some reports
      → HasFollowed opening t.log client (commands_by client script.steps) reports
  pub others : All (λ (entry : Entry). entry.client < length script.names) t.log
  pub closing : t.sheet ≡ after opening t.log
