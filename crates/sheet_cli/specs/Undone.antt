-- The edits of a script as a log, one of which is undone.
use Rattle.std.specs.Prelude.{◌≡◌, ℕ, List, [], ◌∷◌, ◌++◌, flat_map}
use Rattle.sheet_refs.specs.Cells.{Position}
use Rattle.sheet_model.specs.Edits.{EditValue}
use Rattle.sheet_model.specs.Sheets.{SheetValue}
use Rattle.sheet_model.specs.declared.entry.Entry.{Entry}
use Rattle.edit_script.specs.declared.script.Command.{Command}
use Rattle.edit_script.specs.declared.script.Command.TheVariants as asks
use Rattle.edit_script.specs.declared.script.Step.{Step}
use Rattle.sheet_undo.specs.Undoing.{IsOvertaken, Undoes}

-- the entry that a client's command adds to a log, if it is an edit
abbrev pub entry_by : ℕ → Command → List Entry
entry_by client (asks.Put edit) = record { client = client; edit = edit } ∷ []
entry_by client (asks.Look window) = []
entry_by client (asks.Firm window) = []
entry_by client (asks.Work turns) = []

-- the edits of steps, in their order, as a log
abbrev pub entries_of : List Step → List Entry
entries_of steps = flat_map (λ (step : Step). entry_by step.client step.command) steps

-- a log has gained what a step edits
abbrev pub AddsEntry : Step → List Entry → List Entry → Type 0
AddsEntry step old new = new ≡ old ++ entry_by step.client step.command

-- an edit undoes the edit of a number among those of steps over a sheet, whose cells no later one changes
pub record UndoesEdit (sheet : SheetValue) (steps : List Step) (number : ℕ) (edit : EditValue) : Type 0 where
  pub undoes : Undoes sheet (entries_of steps) number edit
  pub latest : (by : ℕ) (cell : Position) → ¬ IsOvertaken (entries_of steps) number by cell
