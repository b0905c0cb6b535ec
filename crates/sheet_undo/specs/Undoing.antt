-- Undoing an entry of a log: each of its cells gets back what it held before that entry.
use Rattle.std.specs.Prelude.{◌≡◌, ◌⊎◌, ◌<◌, ◌≤◌, ℕ, ◌+◌, ◌-◌, List, [], ◌∷◌, ◌++◌, length, map, take, slice_get}
use Rattle.std.specs.Prelude.{Some, All, Contains}
use Rattle.sheet_refs.specs.Cells.{Position}
use Rattle.sheet_model.specs.Changes.{ChangeValue}
use Rattle.sheet_model.specs.Edits.{EditValue, IsFor, IsWholeEdit, after_edit, replaced_by}
use Rattle.sheet_model.specs.Logs.{after}
use Rattle.sheet_model.specs.Sheets.{SheetValue, content_of}
use Rattle.sheet_model.specs.Values.{value_of}
use Rattle.sheet_model.specs.declared.entry.Entry.{Entry}

-- the entry of a number, the first one having the number 1
pub record IsNumbered (log : List Entry) (number : ℕ) (entry : Entry) : Type 0 where
  pub counted : 1 ≤ number
  pub stands : slice_get log (number - 1) ≡ Some entry

-- the sheet as it is before the entry of a number
abbrev pub before : SheetValue → List Entry → ℕ → SheetValue
before opening log number = after opening (take (number - 1) log)

-- the cells that an edit changes, in its order
abbrev pub changed_cells : EditValue → List Position
changed_cells edit = map (λ (change : ChangeValue). change.cell) edit

-- a cell is among some cells
abbrev pub IsAmong : List Position → Position → Type 0
IsAmong cells cell = Contains cells cell

-- an edit undoes the entry of a number: it has the entry's cells, in the entry's order, each with what it held before
-- that entry
pub record Undoes (opening : SheetValue) (log : List Entry) (number : ℕ) (edit : EditValue) : Type 0 where
  pub entry : Entry
  pub numbered : IsNumbered log number entry
  pub contents : edit ≡ replaced_by (before opening log number) entry.edit

-- a log has so many entries, and none of a number: it is 0 or too large
pub record HasNoEntry (log : List Entry) (number count : ℕ) : Type 0 where
  pub counted : count ≡ length log
  pub none : (number ≡ 0) ⊎ (count < number)

-- the first of some cells, in their order, that is among others
pub record IsFirstAmong (others cells : List Position) (cell : Position) : Type 0 where
  pub place : ℕ
  pub stands : slice_get cells place ≡ Some cell
  pub among : IsAmong others cell
  pub first : All (λ c. ¬ IsAmong others c) (take place cells)

-- two edits change one cell
abbrev pub ShareACell : EditValue → EditValue → Type 0
ShareACell a b = (cell : Position) × IsAmong (changed_cells a) cell × IsAmong (changed_cells b) cell

-- a later entry changes a cell of the entry of a number: this is the number of the first such entry, and the first of
-- the earlier entry's cells, in its order, that it changes
pub record IsOvertaken (log : List Entry) (number by : ℕ) (cell : Position) : Type 0 where
  pub entry : Entry
  pub overtaker : Entry
  pub numbered : IsNumbered log number entry
  pub by_is : IsNumbered log by overtaker
  pub later : number < by
  pub least : (k : ℕ) (between : Entry) → number < k → k < by → IsNumbered log k between
      → ¬ ShareACell entry.edit between.edit
  pub cell_is : IsFirstAmong (changed_cells overtaker.edit) (changed_cells entry.edit) cell

-- no later entry changes a cell of the entry of a number
abbrev pub IsNotOvertaken : List Entry → ℕ → Entry → Type 0
IsNotOvertaken log number entry = (k : ℕ) (later : Entry) → number < k → IsNumbered log k later
    → ¬ ShareACell entry.edit later.edit

-- each entry of a log changes cells of the sheet, with labels of its table
abbrev pub AreFor : SheetValue → List Entry → Type 0
AreFor sheet log = All (λ (entry : Entry). IsFor sheet entry.edit) log

-- each entry of a log has one to 1024 changes of distinct cells, to what may be written
abbrev pub AreWhole : List Entry → Type 0
AreWhole log = All (λ (entry : Entry). IsWholeEdit entry.edit) log

-- the sheet after the log and one more edit
abbrev pub undone : SheetValue → List Entry → EditValue → SheetValue
undone opening log edit = after_edit (after opening log) edit

-- there each cell of the entry of a number holds what it held before that entry, and every other cell what it holds
-- after the log; where that entry is the last one, every content and every value is as before it; the formulas have the
-- functions of the edition that they had
pub record Restores (opening : SheetValue) (log : List Entry) (number : ℕ) (edit : EditValue) : Type 0 where
  pub here : (entry : Entry) (cell : Position) → IsNumbered log number entry → IsAmong (changed_cells entry.edit) cell
      → content_of (undone opening log edit) cell ≡ content_of (before opening log number) cell
  pub others : (entry : Entry) (cell : Position) → IsNumbered log number entry
      → ¬ IsAmong (changed_cells entry.edit) cell
      → content_of (undone opening log edit) cell ≡ content_of (after opening log) cell
  pub last : number ≡ length log → undone opening log edit ≡ before opening log number
  pub values : number ≡ length log → (cell : Position)
      → value_of (undone opening log edit) cell ≡ value_of (before opening log number) cell
  pub edition : (undone opening log edit).edition ≡ opening.edition

-- the log with the edit of a client as one more entry
abbrev pub with_entry : List Entry → ℕ → EditValue → List Entry
with_entry log client edit = log ++ record { client = client; edit = edit } ∷ []

-- the edit, as one more entry of the log, is undone by what the entry of a number did
abbrev pub IsRedone : SheetValue → List Entry → ℕ → EditValue → Type 0
IsRedone opening log number edit =
    (client : ℕ) (entry : Entry) → IsNumbered log number entry
    → Undoes opening (with_entry log client edit) (length log + 1) entry.edit
