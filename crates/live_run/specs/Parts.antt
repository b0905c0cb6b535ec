-- The parts of a script's clients, as they are made ahead of a run.
use Rattle.std.specs.Prelude.{◌≡◌, ◌<◌, ◌≤◌, ◌^◌, ◌+◌, ℕ, Bool, true, false, List, [], ◌∷◌, ◌++◌, length, slice_get, Some, All}
use Rattle.edit_script.specs.declared.script.Command.{Command}
use Rattle.edit_script.specs.declared.script.Command.TheVariants as asks
use Rattle.edit_script.specs.declared.script.Step.{Step}
use Rattle.sheet_refs.specs.Cells.{Corners, cells_of}
use Rattle.sheet_model.specs.declared.report.Report.{Report}
use Rattle.live_run.specs.Legal.{commands_by, edits_asked}
use Rattle.sheet_model.specs.Sheets.{SheetValue}
use Rattle.live_run.specs.Runs.{AreCommandsFor, AreReportsFor}
use Rattle.live_run.specs.declared.part.Part.{Part}

-- the window of a look isn't larger than a board may be
abbrev pub IsAnswerable : Command → Type 0
IsAnswerable (asks.Put edit) = Unit {0}
IsAnswerable (asks.Look window) = length (cells_of window) ≤ 65536
IsAnswerable (asks.Firm window) = length (cells_of window) ≤ 65536
IsAnswerable (asks.Work turns) = Unit {0}

abbrev pub AreAnswerable : List Command → Type 0
AreAnswerable commands = All IsAnswerable commands

abbrev pub AreStepsAnswerable : List Step → Type 0
AreStepsAnswerable steps = All (λ (step : Step). IsAnswerable step.command) steps

-- the report is one for a look at the window
pub record IsReportOf (firm : Bool) (window : Corners) (report : Report) : Type 0 where
  pub firm_is : report.firm ≡ firm
  pub room : length (cells_of window) ≤ report.board.room

-- one more report is such a one, and the others are as they were
pub record AddsReportOf (firm : Bool) (window : Corners) (old new : List Report) : Type 0 where
  pub report : Report
  pub is_of : IsReportOf firm window report
  pub added : new ≡ old ++ report ∷ []

-- a look adds its report, and another command none
abbrev pub AddsReport : Command → List Report → List Report → Type 0
AddsReport (asks.Put edit) old new = new ≡ old
AddsReport (asks.Look window) old new = AddsReportOf false window old new
AddsReport (asks.Firm window) old new = AddsReportOf true window old new
AddsReport (asks.Work turns) old new = new ≡ old

-- the part is that of a client of the steps: its commands, and a report for each of its looks
pub record IsPartOf (client : ℕ) (steps : List Step) (part : Part) : Type 0 where
  pub commands_are : part.commands.items ≡ commands_by client steps
  pub reports_are : AreReportsFor part.commands.items part.reports.items

-- there is one for each of so many clients, in order
pub record ArePartsOf (clients : ℕ) (steps : List Step) (parts : List Part) : Type 0 where
  pub count : length parts ≡ clients
  pub each : (client : ℕ) (part : Part) → slice_get parts client ≡ Some part → IsPartOf client steps part

-- how many edits parts ask for together
abbrev pub edits_of : List Part → ℕ
edits_of [] = 0
edits_of (part ∷ parts) = length (edits_asked part.commands.items) + edits_of parts

-- a part for a sheet: its commands are for it and of a number that a counter holds, and there is a report for each look
pub record IsPartFor (sheet : SheetValue) (part : Part) : Type 0 where
  pub few : length part.commands.items < 2 ^ 32
  pub commands : AreCommandsFor sheet part.commands.items
  pub reports : AreReportsFor part.commands.items part.reports.items
