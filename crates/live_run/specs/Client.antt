-- One client's part of a live run: what is to be done, and what is known of what was done.
use Rattle.std.specs.Prelude.{◌≡◌, ◌<◌, ◌≤◌, ◌^◌, ◌⊎◌, ℕ, true, false, Bool, if◌then◌else◌, List, [], ◌∷◌, ◌++◌, map, reverse, length, All, vec_capacity}
use Rattle.sheet_refs.specs.Cells.{Corners, IsOrdered, cells_of}
use Rattle.edit_log.specs.Rows.{IsInside}
use Rattle.edit_script.specs.declared.script.Command.{Command}
use Rattle.edit_script.specs.declared.script.Command.TheVariants as asks
use Rattle.live_sheet.specs.Edited.{HasCommitted, KnowsFull}
use Rattle.live_sheet.specs.Firm.{IsFirmLookOf, KeepsPass}
use Rattle.live_sheet.specs.Opened.{IsNewPass}
use Rattle.live_sheet.specs.Passes.{client_of, pass_view, pass_log, numbers_of, IsLookOf}
use Rattle.live_sheet.specs.declared.naming.Naming.{Ghosts}
use Rattle.live_sheet.specs.declared.pass.Pass.{Pass}
use Rattle.sheet_model.specs.Boards.{BoardValue}
use Rattle.sheet_model.specs.Edits.{EditValue, AreWritten}
use Rattle.sheet_model.specs.Sheets.{SheetValue}
use Rattle.sheet_model.specs.declared.report.Report.{Report}
use Rattle.live_run.specs.Legal.{edits_asked, looks_asked}
use Rattle.live_run.specs.Runs.{IsCommandFor}
use Rattle.live_run.specs.Told.{HasAnswered}
use Rattle.live_run.specs.declared.client.Client.{Client}
use Rattle.live_run.specs.declared.cut.Cut.{Cut}
use Rattle.live_run.specs.declared.cut.Cut.TheVariants.{Memory, FullLog}
use Rattle.live_run.specs.declared.order.Order.{Order}
use Rattle.live_run.specs.declared.order.Order.TheVariants.{Put, Look}

-- the command of an order
abbrev pub look_command : Bool → Corners → Command
look_command firm window = if firm then asks.Firm window else asks.Look window

abbrev pub command_of : Order → Command
command_of (Put edit) = asks.Put edit
command_of (Look firm window board) = look_command firm window

-- the commands of orders that are taken from the end
abbrev pub commands_of : List Order → List Command
commands_of orders = reverse (map command_of orders)

-- an order is for the sheet, and the board of a look has room for its window
abbrev pub IsOrderFor : SheetValue → Order → Type 0
IsOrderFor sheet (Put edit) = IsCommandFor sheet (asks.Put edit)
IsOrderFor sheet (Look firm window board) = IsInside sheet.sizes window × (length (cells_of window) ≤ board.room)

-- an order to look
abbrev pub IsLook : Order → Type 0
IsLook (Put edit) = ⊥
IsLook (Look firm window board) = Unit {0}

module _ {N : Type 0} {G : Ghosts N} where
  -- why an edit isn't made, and what the pass knows then
  abbrev pub IsEditCut : Pass N G → Pass N G → Cut → Type 0
  IsEditCut old new Memory = Unit {0}
  IsEditCut old new FullLog = KnowsFull old new

  -- why an order isn't followed; a look is never cut by a full log
  abbrev pub IsCutAt : Order → Pass N G → Pass N G → Cut → Type 0
  IsCutAt (Put edit) old new why = IsEditCut old new why
  IsCutAt (Look firm window board) old new why = why ≡ Memory

  -- the commands that a task is to follow
  abbrev pub task_commands : Client N G → List Command
  task_commands task = commands_of task.orders.items

module _ {N : Type 0} {G : Ghosts N} (opening : SheetValue) where
  -- so it is after some commands of the client whose pass this is
  pub record HasRun (client : ℕ) (commands : List Command) (pass : Pass N G) (reports : List Report) : Type 0 where
    pub whose : client_of pass ≡ client
    pub answered : HasAnswered opening client commands (pass_view pass) (numbers_of pass) reports

  -- a firm look from one moment of a pass to another
  pub record HasShownFirmly (window : Corners) (old new : Pass N G) (board : BoardValue) : Type 0 where
    pub room : ℕ
    pub keeps : KeepsPass old new
    pub firm : IsFirmLookOf opening window old new room board

  -- a look of this kind
  abbrev pub HasShown : Bool → Corners → Pass N G → Pass N G → BoardValue → Type 0
  HasShown true window old new board = HasShownFirmly window old new board
  HasShown false window old new board = IsLookOf opening.sizes window old new board

  -- an edit was made by the pass, and what it writes may stand in a sheet
  pub record HasMadeEdit (edit : EditValue) (old new : Pass N G) : Type 0 where
    pub number : ℕ
    pub committed : HasCommitted opening edit old new number
    pub written : AreWritten edit

  -- a look was made, and a report of it added
  pub record HasAddedReport (firm : Bool) (window : Corners) (old new : Pass N G) (before after : List Report) : Type 0 where
    pub ordered : IsOrdered window.head window.tail
    pub report : Report
    pub firm_is : report.firm ≡ firm
    pub shown : HasShown firm window old new report.board
    pub added : after ≡ before ++ report ∷ []

  -- an order was followed
  abbrev pub HasMade : Order → Pass N G → Pass N G → List Report → List Report → Type 0
  HasMade (Put edit) old new before after = HasMadeEdit edit old new × (after ≡ before)
  HasMade (Look firm window board) old new before after = HasAddedReport firm window old new before after

  -- The client's part was cut short: the pass knows a full log, and has fewer accepted edits than the commands ask for.
  pub record IsCutShort (client : ℕ) (commands : List Command) (pass : Pass N G) : Type 0 where
    pub whose : client_of pass ≡ client
    pub full : length (pass_log pass) ≡ 1048576
    pub fewer : length (numbers_of pass) < length (edits_asked commands)

  -- A task as it begins: its pass is new, its orders are for the sheet, and there is room for its reports.
  pub record Begins (task : Client N G) : Type 0 where
    pub pass : IsNewPass task.client task.pass
    pub orders : All (IsOrderFor opening) task.orders.items
    pub few : length task.orders.items < 2 ^ 32
    pub none : task.reports.items ≡ []
    pub room : length (looks_asked (task_commands task)) ≤ vec_capacity task.reports
    pub going : task.failed ≡ false

  -- it is the task of a client that asks for these commands
  pub record IsReady (client : ℕ) (commands : List Command) (task : Client N G) : Type 0 where
    pub whose : task.client ≡ client
    pub asked : task_commands task ≡ commands
    pub begins : Begins task

  -- How a task ends: all of its commands were followed, or a full log cut them short, unless there was no memory.
  abbrev pub HasEnded : ℕ → List Command → Client N G → Type 0
  HasEnded client commands task =
      task.failed ≡ false → HasRun client commands task.pass task.reports.items ⊎ IsCutShort client commands task.pass
