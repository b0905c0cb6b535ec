-- Edits: lists of changes of distinct cells, and what they do to a sheet.
use Rattle.std.specs.Prelude.{◌≡◌, ◌≢◌, ◌≤◌, ◌↔◌, ℕ, IsTrue, List, [], ◌∷◌, length, map, All, AllPairs, Contains}
use Rattle.sheet_refs.specs.Cells.{Position}
use Rattle.sheet_refs.specs.Sizes.{is_inside, place_of}
use Rattle.sheet_refs.specs.declared.sizes.Sizes.{Sizes}
use Rattle.sheet_model.specs.Changes.{ChangeValue, after_change}
use Rattle.sheet_model.specs.Sheets.{SheetValue, HasLabel, IsHeld, IsSheet, IsWritten, content_of}

-- an edit: its changes, in order
abbrev pub EditValue : Type 0
EditValue = List ChangeValue

-- no two changes are of one cell
abbrev pub AreOfDistinctCells : EditValue → Type 0
AreOfDistinctCells changes = AllPairs (λ a b. a.cell ≢ b.cell) changes

-- an edit changes at least one cell and at most 1024, and none twice
pub record IsEdit (changes : EditValue) : Type 0 where
  pub some : 1 ≤ length changes
  pub few : length changes ≤ 1024
  pub distinct : AreOfDistinctCells changes

-- what each change puts into its cell may be written
abbrev pub AreWritten : EditValue → Type 0
AreWritten changes = All (λ (change : ChangeValue). IsWritten change.content) changes

-- an edit in memory
pub record IsWholeEdit (changes : EditValue) : Type 0 where
  pub edit : IsEdit changes
  pub written : AreWritten changes

-- a change is for a sheet where its cell is in the sheet and its label, if it has one, in the table
pub record IsChangeFor (sheet : SheetValue) (change : ChangeValue) : Type 0 where
  pub inside : IsTrue (is_inside sheet.sizes change.cell)
  pub label : HasLabel (length sheet.labels) change.content

-- and an edit where each of its changes is
abbrev pub IsFor : SheetValue → EditValue → Type 0
IsFor sheet edit = All (IsChangeFor sheet) edit

-- the changed cells are in the rectangle; the labels are in a table of so many; the contents may stand beside it
abbrev pub AreInSheet : SheetValue → EditValue → Type 0
AreInSheet sheet edit = All (λ (change : ChangeValue). IsTrue (is_inside sheet.sizes change.cell)) edit

abbrev pub HaveLabels : ℕ → EditValue → Type 0
HaveLabels labels edit = All (λ (change : ChangeValue). HasLabel labels change.content) edit

abbrev pub AreHeldBeside : ℕ → EditValue → Type 0
AreHeldBeside labels edit = All (λ (change : ChangeValue). IsHeld labels change.content) edit

-- the sheet after an edit: its changes are made one after the other
abbrev pub after_edit : SheetValue → EditValue → SheetValue
after_edit sheet [] = sheet
after_edit sheet (change ∷ changes) = after_edit (after_change sheet change) changes

-- what the changed cells hold in a sheet, as an edit of the same cells in the same order
abbrev pub held_in : SheetValue → ChangeValue → ChangeValue
held_in sheet change = record { cell = change.cell; content = content_of sheet change.cell }

abbrev pub replaced_by : SheetValue → EditValue → EditValue
replaced_by sheet edit = map (held_in sheet) edit

-- the sizes of all cells that have names, and the place of a cell among them, row by row
abbrev pub all_names : Sizes
all_names = record { rows = 1048576; cols = 16384 }

abbrev pub HasName : Position → Type 0
HasName cell = IsTrue (is_inside all_names cell)

abbrev pub named_place : Position → ℕ
named_place cell = place_of all_names cell

-- after an edit each changed cell of the sheet holds what its change says
abbrev pub EditsFillTheirCells : Type 0
EditsFillTheirCells =
    (sheet : SheetValue) (edit : EditValue) (change : ChangeValue) → IsSheet sheet → AreOfDistinctCells edit
    → Contains edit change → IsTrue (is_inside sheet.sizes change.cell)
    → content_of (after_edit sheet edit) change.cell ≡ change.content

-- and each cell that no change names holds what it held
abbrev pub EditsLeaveOtherCells : Type 0
EditsLeaveOtherCells =
    (sheet : SheetValue) (edit : EditValue) (cell : Position) → ((change : ChangeValue) → Contains edit change → cell ≢ change.cell)
    → content_of (after_edit sheet edit) cell ≡ content_of sheet cell

-- edits with the same changes do the same to a sheet, in whatever order these stand
abbrev pub OrderOfChangesIsFree : Type 0
OrderOfChangesIsFree =
    (sheet : SheetValue) (a b : EditValue) → IsSheet sheet → AreHeldBeside (length sheet.labels) a → AreOfDistinctCells a → AreOfDistinctCells b
    → ((change : ChangeValue) → Contains a change ↔ Contains b change) → after_edit sheet a ≡ after_edit sheet b

-- what an edit of a sheet replaced, put back, leaves the sheet as it was
abbrev pub ReplacedContentsUndoEdits : Type 0
ReplacedContentsUndoEdits =
    (sheet : SheetValue) (edit : EditValue) → IsSheet sheet → AreOfDistinctCells edit → AreHeldBeside (length sheet.labels) edit
    → after_edit (after_edit sheet edit) (replaced_by sheet edit) ≡ sheet
