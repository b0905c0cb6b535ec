-- What a live run wants of a script, and of what is made ahead of it.
use Rattle.std.specs.Prelude.{◌≡◌, ◌<◌, ◌≤◌, ◌^◌, List, length, count_by, All}
use Rattle.std.specs.List.{AllZip}
use Rattle.edit_log.specs.Rows.{IsInside}
use Rattle.edit_script.specs.Scripts.{ScriptValue}
use Rattle.edit_script.specs.declared.script.Command.{Command}
use Rattle.edit_script.specs.declared.script.Command.TheVariants as asks
use Rattle.edit_script.specs.declared.script.Step.{Step}
use Rattle.play_machine.specs.Playing.{is_put}
use Rattle.sheet_model.specs.Edits.{IsFor}
use Rattle.sheet_model.specs.Sheets.{SheetValue}
use Rattle.sheet_refs.specs.Cells.{Corners, cells_of}
use Rattle.sheet_model.specs.declared.report.Report.{Report}
use Rattle.live_run.specs.Legal.{LookAsked, looks_asked}

-- the window lies in the sheet, and has at most 65536 cells
pub record IsWindowFor (sheet : SheetValue) (window : Corners) : Type 0 where
  pub inside : IsInside sheet.sizes window
  pub small : length (cells_of window) ≤ 65536

-- an edit is for the sheet, and so is a window; turns of work aren't asked for
abbrev pub IsCommandFor : SheetValue → Command → Type 0
IsCommandFor sheet (asks.Put edit) = IsFor sheet edit
IsCommandFor sheet (asks.Look window) = IsWindowFor sheet window
IsCommandFor sheet (asks.Firm window) = IsWindowFor sheet window
IsCommandFor sheet (asks.Work turns) = ⊥

abbrev pub AreCommandsFor : SheetValue → List Command → Type 0
AreCommandsFor sheet commands = All (IsCommandFor sheet) commands

-- a script that may be run over a sheet: it has at most 32 clients and fewer than 2^32 steps, each of which is for the sheet,
-- and no more edits than a log may have
pub record IsRunnable (sheet : SheetValue) (script : ScriptValue) : Type 0 where
  pub few : length script.names ≤ 32
  pub short : length script.steps < 2 ^ 32
  pub commands : All (λ (step : Step). IsCommandFor sheet step.command) script.steps
  pub edits : count_by (λ (step : Step). is_put step.command) script.steps ≤ 1048576

-- a report that is made for a look: firm where it is, and with room for the cells of its window
pub record IsReportFor (look : LookAsked) (report : Report) : Type 0 where
  pub firm_is : report.firm ≡ look.firm
  pub room : length (cells_of look.window) ≤ report.board.room

-- there is one for each look of some commands, in order
abbrev pub AreReportsFor : List Command → List Report → Type 0
AreReportsFor commands reports = AllZip IsReportFor (looks_asked commands) reports
