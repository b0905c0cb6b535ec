-- Which steps may be played over a sheet, and what is played of a book.
use Rattle.std.specs.Prelude.{◌≡◌, ℕ, ◌≤◌, Bool, true, false, List, ◌++◌, length, All, count_by}
use Rattle.sheet_refs.specs.Cells.{Corners, cells_of}
use Rattle.sheet_model.specs.Sheets.{SheetValue}
use Rattle.sheet_model.specs.Edits.{IsFor}
use Rattle.edit_log.specs.Books.{BookValue}
use Rattle.edit_script.specs.declared.script.Command.{Command}
use Rattle.edit_script.specs.declared.script.Command.TheVariants.{Put, Look, Firm, Work}
use Rattle.edit_script.specs.declared.script.Step.{Step}
use Rattle.sheet_model.specs.declared.report.Report.{Report}
use Rattle.sheet_model.specs.Sheets.{IsWithinSheet}
use Rattle.play_machine.specs.Machine.{Machine, FollowsCommand}

-- a window of at most 65536 cells of the sheet
pub record IsWindow (sheet : SheetValue) (window : Corners) : Type 0 where
  pub inside : IsWithinSheet window sheet
  pub few : length (cells_of window) ≤ 65536

-- a command about cells of the sheet
abbrev pub IsCommandOfSheet : SheetValue → Command → Type 0
IsCommandOfSheet sheet (Put edit) = IsFor sheet edit
IsCommandOfSheet sheet (Look window) = IsWindow sheet window
IsCommandOfSheet sheet (Firm window) = IsWindow sheet window
IsCommandOfSheet sheet (Work turns) = Unit {0}

-- an edit
abbrev pub is_put : Command → Bool
is_put (Put edit) = true
is_put _ = false

-- steps about cells of the sheet, with no more edits than a log may have
pub record AreFit (sheet : SheetValue) (steps : List Step) : Type 0 where
  pub each : All (λ step. IsCommandOfSheet sheet step.command) steps
  pub few : count_by (λ step. is_put step.command) steps ≤ 1048576

-- the machine of a book with marks for its cells
abbrev pub machine_of : {G : Type 0} → BookValue G → List ℕ → Machine
machine_of book marks = record { sheet = book.sheet; number = length book.log; marks = marks }

-- a step is followed, and what it reports joins the reports
pub record TellsReports (old new : Machine) (step : Step) (before after : List Report) : Type 0 where
  pub told : List Report
  pub follows : FollowsCommand old step.client step.command new told
  pub joined : after ≡ before ++ told
