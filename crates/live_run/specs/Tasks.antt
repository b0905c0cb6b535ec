-- The tasks of a run's clients, before and after it, and what the run leaves.
use Rattle.std.specs.Prelude.{◌≡◌, ◌<◌, ℕ, false, List, length, slice_get, slice_index_or, Some, All}
use Rattle.std.specs.Global.{Vec}
use Rattle.live_sheet.specs.declared.naming.Naming.{Ghosts}
use Rattle.sheet_model.specs.Logs.{after}
use Rattle.sheet_model.specs.Sheets.{SheetValue}
use Rattle.sheet_model.specs.Values.{AreValues}
use Rattle.sheet_model.specs.declared.entry.Entry.{Entry}
use Rattle.sheet_model.specs.Boards.{IsFull}
use Rattle.sheet_model.specs.declared.report.Report.{Report}
use Rattle.live_run.specs.Client.{HasEnded, IsReady, task_commands}
use Rattle.live_run.specs.Legal.{HasFollowed}
use Rattle.live_run.specs.declared.client.Client.{Client}
use Rattle.live_run.specs.declared.part.Part.{Part}
use Rattle.live_run.specs.declared.ran.Ran.{Ran}

module _ {N : Type 0} {G : Ghosts N} where
  -- the task of each client is ready, with the commands of its part
  pub record AreReady (opening : SheetValue) (parts : List Part) (tasks : List (Client N G)) : Type 0 where
    pub count : length tasks ≡ length parts
    pub each : (client : ℕ) (part : Part) (task : Client N G) → slice_get parts client ≡ Some part → slice_get tasks client ≡ Some task
        → IsReady opening client part.commands.items task

  -- the second task is the first one at its end
  abbrev pub IsEndOf : SheetValue → Client N G → Client N G → Type 0
  IsEndOf opening old new = HasEnded opening old.client (task_commands old) new

  -- so is each task
  pub record AllEnd (opening : SheetValue) (old new : List (Client N G)) : Type 0 where
    pub count : length new ≡ length old
    pub each : (place : ℕ) (task : Client N G) → place < length old → IsEndOf opening (slice_index_or old place task) (slice_index_or new place task)

  -- the task of each client has come to its end, with the commands of its part
  pub record AreEnded (opening : SheetValue) (parts : List Part) (tasks : List (Client N G)) : Type 0 where
    pub count : length tasks ≡ length parts
    pub each : (client : ℕ) (part : Part) (task : Client N G) → slice_get parts client ≡ Some part → slice_get tasks client ≡ Some task
        → HasEnded opening client part.commands.items task

  -- a task that had all the memory that it wanted
  abbrev pub HadMemory : Client N G → Type 0
  HadMemory task = task.failed ≡ false

-- What a run of some parts leaves: each client has followed the commands of its part, and all its boards are full; the log
-- has no entries but theirs; and the sheet is the one after the whole log, with the values of all its cells.
pub record IsRunOf (opening : SheetValue) (parts : List Part) (ran : Ran) : Type 0 where
  pub count : length ran.reports.items ≡ length parts
  pub each : (client : ℕ) (part : Part) (reports : Vec Report) → slice_get parts client ≡ Some part → slice_get ran.reports.items client ≡ Some reports
      → HasFollowed opening ran.closed.log.items client part.commands.items reports.items
  pub full : All (λ (reports : Vec Report). All (λ (report : Report). IsFull report.board) reports.items) ran.reports.items
  pub others : All (λ (entry : Entry). entry.client < length parts) ran.closed.log.items
  pub sheet_is : ran.closed.sheet ≡ after opening ran.closed.log.items
  pub values_are : AreValues ran.closed.sheet ran.closed.values.items
