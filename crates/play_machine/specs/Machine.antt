-- The play machine: a sheet whose cells are marked by edits and cleared by turns of work, one command after the other.
use Rattle.std.specs.Prelude.{◌≡◌, ◌<◌, ℕ, suc, ◌+◌, Bool, false, true, nat_lt, if◌then◌else◌, IsTrue, IsFalse, List}
use Rattle.std.specs.Prelude.{[], ◌∷◌, ◌++◌, length, map, replicate, slice_index_or, slice_set}
use Rattle.sheet_refs.specs.Cells.{Position, Corners, cells_of}
use Rattle.sheet_refs.specs.Sizes.{is_inside, cell_count, place_of}
use Rattle.sheet_refs.specs.declared.sizes.Sizes.{Sizes}
use Rattle.sheet_model.specs.Edits.{EditValue, after_edit}
use Rattle.sheet_model.specs.Sheets.{SheetValue}
use Rattle.sheet_model.specs.Values.{value_of}
use Rattle.sheet_model.specs.declared.board.Shown.{Shown}
use Rattle.sheet_model.specs.declared.board.Shown.TheVariants as shown
use Rattle.edit_log.specs.Books.{client_entry}
use Rattle.edit_log.specs.Touches.{DependsDirectly, Touches}
use Rattle.edit_script.specs.declared.script.Command.{Command}
use Rattle.edit_script.specs.declared.script.Command.TheVariants as asks
use Rattle.edit_script.specs.declared.script.Step.{Step}
use Rattle.sheet_model.specs.declared.report.Report.{Report}

-- the sheet as it is now, how many edits there were, and for each cell, row by row, the number of the edit that marked it,
-- or 0 where it isn't marked
pub record Machine : Type 0 where
  pub sheet : SheetValue
  pub number : ℕ
  pub marks : List ℕ

-- it begins with a sheet, and no cell is marked
abbrev pub opening : SheetValue → Machine
opening sheet = record { sheet = sheet; number = 0; marks = replicate (cell_count sheet.sizes) 0 }

-- the mark of a cell; a cell past the rectangle has none
abbrev pub mark_of : Sizes → List ℕ → Position → ℕ
mark_of sizes marks cell = if is_inside sizes cell then slice_index_or marks (place_of sizes cell) 0 else 0

abbrev pub is_marked : Sizes → List ℕ → Position → Bool
is_marked sizes marks cell = nat_lt 0 (mark_of sizes marks cell)

-- a marked cell is ready where no cell in its references is marked
pub record IsReady (sheet : SheetValue) (marks : List ℕ) (cell : Position) : Type 0 where
  pub marked : IsTrue (is_marked sheet.sizes marks cell)
  pub inputs : (input : Position) → DependsDirectly sheet input cell → IsFalse (is_marked sheet.sizes marks input)

abbrev pub IsMarked : Sizes → List ℕ → Position → Type 0
IsMarked sizes marks cell = IsTrue (is_marked sizes marks cell)

-- no cell of the rectangle is such
abbrev pub IsNowhere : Sizes → (Position → Type 0) → Type 0
IsNowhere sizes Such = (cell : Position) → IsTrue (is_inside sizes cell) → ¬ Such cell

-- the first cell of the rectangle, row by row, that is
pub record IsFirstCell (sizes : Sizes) (Such : Position → Type 0) (cell : Position) : Type 0 where
  pub inside : IsTrue (is_inside sizes cell)
  pub such : Such cell
  pub first : (other : Position) → IsTrue (is_inside sizes other) → place_of sizes other < place_of sizes cell → ¬ Such other

-- the marks without that of a cell
abbrev pub without_mark : Sizes → List ℕ → Position → List ℕ
without_mark sizes marks cell = slice_set marks (place_of sizes cell) 0

-- a turn clears the first ready cell; or the first marked one, where none is ready; or nothing, where none is marked
pub data IsTurn (sheet : SheetValue) (old new : List ℕ) : Type 0 where
  clears_ready : (cell : Position) → IsFirstCell sheet.sizes (IsReady sheet old) cell → new ≡ without_mark sheet.sizes old cell → IsTurn sheet old new
  clears_marked : (cell : Position) → IsNowhere sheet.sizes (IsReady sheet old)
      → IsFirstCell sheet.sizes (IsMarked sheet.sizes old) cell → new ≡ without_mark sheet.sizes old cell
      → IsTurn sheet old new
  clears_nothing : IsNowhere sheet.sizes (IsMarked sheet.sizes old) → new ≡ old → IsTurn sheet old new

-- so many turns
pub data AreTurns (sheet : SheetValue) : ℕ → List ℕ → List ℕ → Type 0 where
  none : (marks : List ℕ) → AreTurns sheet 0 marks marks
  more : (count next : ℕ) (old mid new : List ℕ) → AreTurns sheet count old mid → IsTurn sheet mid new → next ≡ suc count → AreTurns sheet next old new

-- an edit marks its cells and all that depend on them with its number, and no other cell
pub record MarksTouched (sheet : SheetValue) (client : ℕ) (edit : EditValue) (number : ℕ) (old new : List ℕ) : Type 0 where
  pub count : length new ≡ length old
  pub touched : (cell : Position) → IsTrue (is_inside sheet.sizes cell)
      → Touches sheet [] (client_entry client edit) cell → mark_of sheet.sizes new cell ≡ number
  pub others : (cell : Position) → ¬ Touches sheet [] (client_entry client edit) cell → mark_of sheet.sizes new cell ≡ mark_of sheet.sizes old cell

-- the machine after an edit, and with other marks
abbrev pub machine_after : Machine → EditValue → List ℕ → Machine
machine_after machine edit marks = record { sheet = after_edit machine.sheet edit; number = machine.number + 1; marks = marks }

abbrev pub with_marks : Machine → List ℕ → Machine
with_marks machine marks = record { sheet = machine.sheet; number = machine.number; marks = marks }

-- what is shown of a cell: the number of its mark, or its value where it isn't marked
abbrev pub shown_of : Machine → Position → Shown
shown_of machine cell =
    if is_marked machine.sheet.sizes machine.marks cell then shown.Stale (mark_of machine.sheet.sizes machine.marks cell)
    else shown.Value (value_of machine.sheet cell)

-- a report tells of all edits so far, and of each cell of the window
abbrev pub report_of : Machine → Bool → Corners → Report
report_of machine firm window = record {
  firm = firm;
  board = record { room = length (cells_of window); number = machine.number; window = window; cells = map (shown_of machine) (cells_of window) };
}

-- a command of a client, the machine after it, and what is reported
pub data FollowsCommand (old : Machine) (client : ℕ) (command : Command) (new : Machine) (told : List Report) : Type 0 where
  -- an edit
  puts : (edit : EditValue) (marks : List ℕ) → command ≡ asks.Put edit
      → MarksTouched old.sheet client edit (old.number + 1) old.marks marks
      → new ≡ machine_after old edit marks → told ≡ [] → FollowsCommand old client command new told
  -- a look
  looks : (window : Corners) → command ≡ asks.Look window
      → new ≡ old → told ≡ report_of old false window ∷ [] → FollowsCommand old client command new told
  -- turns until no cell is marked, and a look
  settles : (window : Corners) (count : ℕ) (marks : List ℕ) → command ≡ asks.Firm window
      → AreTurns old.sheet count old.marks marks → IsNowhere old.sheet.sizes (IsMarked old.sheet.sizes marks)
      → new ≡ with_marks old marks → told ≡ report_of new true window ∷ [] → FollowsCommand old client command new told
  -- so many turns
  works : (count : ℕ) (marks : List ℕ) → command ≡ asks.Work count
      → AreTurns old.sheet count old.marks marks
      → new ≡ with_marks old marks → told ≡ [] → FollowsCommand old client command new told

-- the commands of steps, one after the other
pub data Plays (start : Machine) : List Step → Machine → List Report → Type 0 where
  none : Plays start [] start []
  more : (steps all : List Step) (step : Step) (mid now : Machine) (before told after : List Report)
      → Plays start steps mid before → FollowsCommand mid step.client step.command now told
      → all ≡ steps ++ step ∷ [] → after ≡ before ++ told → Plays start all now after

-- the reports of steps over a sheet
abbrev pub ArePlayed : SheetValue → List Step → List Report → Type 0
ArePlayed sheet steps reports = (last : Machine) × Plays (opening sheet) steps last reports

-- steps over a sheet give one list of reports
abbrev pub OneList : Type 0
OneList =
    (sheet : SheetValue) (steps : List Step) (reports others : List Report)
    → ArePlayed sheet steps reports → ArePlayed sheet steps others → reports ≡ others
