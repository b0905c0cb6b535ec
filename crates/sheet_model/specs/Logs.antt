-- Logs of edits, and what they do to a sheet.
use Rattle.std.specs.Prelude.{◌≡◌, ℕ, IsTrue, List, [], ◌∷◌, ◌++◌, length, All}
use Rattle.sheet_refs.specs.Cells.{Position}
use Rattle.sheet_refs.specs.Sizes.{is_inside, cell_count, place_of}
use Rattle.value_core.specs.Values.{code_of}
use Rattle.sheet_model.specs.Edits.{after_edit, AreHeldBeside}
use Rattle.sheet_model.specs.Sheets.{SheetValue, IsSheet}
use Rattle.sheet_model.specs.Values.{value_of}
use Rattle.sheet_model.specs.declared.entry.Entry.{Entry}

-- the sheet after the edits of a log's entries, in order, all changes of an entry together
abbrev pub after : SheetValue → List Entry → SheetValue
after sheet [] = sheet
after sheet (entry ∷ log) = after (after_edit sheet entry.edit) log

-- the sheet after one more entry is the sheet after the log, with the entry's edit made
abbrev pub OneMoreEntryIsOneMoreEdit : Type 0
OneMoreEntryIsOneMoreEdit =
    (sheet : SheetValue) (log : List Entry) (entry : Entry) → after sheet (log ++ entry ∷ []) ≡ after_edit (after sheet log) entry.edit

-- a log changes neither the edition nor the sizes nor the labels
abbrev pub LogsKeepEdition : Type 0
LogsKeepEdition = (sheet : SheetValue) (log : List Entry) → (after sheet log).edition ≡ sheet.edition

abbrev pub LogsKeepSizes : Type 0
LogsKeepSizes = (sheet : SheetValue) (log : List Entry) → (after sheet log).sizes ≡ sheet.sizes

abbrev pub LogsKeepLabels : Type 0
LogsKeepLabels = (sheet : SheetValue) (log : List Entry) → (after sheet log).labels ≡ sheet.labels

-- what each entry of a log puts into its cells may stand beside a table of so many labels
abbrev pub AreHeld : ℕ → List Entry → Type 0
AreHeld labels log = All (λ (entry : Entry). AreHeldBeside labels entry.edit) log

-- a log of such entries leaves a sheet
abbrev pub LogsKeepSheets : Type 0
LogsKeepSheets = (sheet : SheetValue) (log : List Entry) → IsSheet sheet → AreHeld (length sheet.labels) log → IsSheet (after sheet log)

-- a number of places, and the worth of each after a log, are those of a sheet: the places are its cells, row by row
-- from 0, and the worth of a cell's place is the code of the value that the cell has after the log
pub record IsOfSheet (opening : SheetValue) (places : ℕ) (worth : List Entry → ℕ → ℕ) : Type 0 where
  pub cells : places ≡ cell_count opening.sizes
  pub values : (log : List Entry) (cell : Position) → IsTrue (is_inside opening.sizes cell)
      → worth log (place_of opening.sizes cell) ≡ code_of (value_of (after opening log) cell)
