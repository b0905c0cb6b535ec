-- What holds of undoing, over definitions alone.
use Rattle.std.specs.Prelude.{◌≡◌, ◌<◌, ℕ, suc, ◌+◌, ◌-◌, List, length, take}
use Rattle.sheet_refs.specs.Cells.{Position}
use Rattle.sheet_model.specs.Edits.{EditValue, after_edit}
use Rattle.sheet_model.specs.Logs.{after}
use Rattle.sheet_model.specs.Sheets.{SheetValue, IsSheet}
use Rattle.sheet_model.specs.declared.entry.Entry.{Entry}
use Rattle.sheet_undo.specs.Undoing.{AreFor, AreWhole, IsNotOvertaken, IsNumbered, IsOvertaken, Restores, ShareACell}
use Rattle.sheet_undo.specs.Undoing.{Undoes, with_entry}

-- one edit undoes an entry
abbrev pub OneEditUndoes : Type 0
OneEditUndoes =
    (opening : SheetValue) (log : List Entry) (number : ℕ) (a b : EditValue) → Undoes opening log number a
    → Undoes opening log number b → a ≡ b

-- it restores the entry's cells, and leaves all others
abbrev pub UndoingRestores : Type 0
UndoingRestores =
    (opening : SheetValue) (log : List Entry) (number : ℕ) (edit : EditValue) → IsSheet opening → AreFor opening log
    → AreWhole log → Undoes opening log number edit → Restores opening log number edit

-- where a later entry changes a cell of an entry, some later entry is the first one that does
abbrev pub LaterEntriesOvertake : Type 0
LaterEntriesOvertake =
    (log : List Entry) (number k : ℕ) (entry later : Entry) → IsNumbered log number entry → IsNumbered log k later
    → number < k → ShareACell entry.edit later.edit → (by : ℕ) × (cell : Position) × IsOvertaken log number by cell

-- what undoes an undone entry, which no later one overtook, is the entry's edit again
abbrev pub UndoneTwiceIsTheEntry : Type 0
UndoneTwiceIsTheEntry =
    (opening : SheetValue) (log : List Entry) (number client : ℕ) (entry : Entry) (edit again : EditValue)
    → IsSheet opening → AreFor opening log → AreWhole log → IsNumbered log number entry
    → IsNotOvertaken log number entry → Undoes opening log number edit
    → Undoes opening (with_entry log client edit) (length log + 1) again → again ≡ entry.edit

-- the last entries of a log are undone one after the other: each is the last of the log at its time, from which it is
-- then taken, and the edit that undoes it is made
pub data UndoesLast (opening : SheetValue) (log : List Entry) : ℕ → SheetValue → Type 0 where
  none : (sheet : SheetValue) → sheet ≡ after opening log → UndoesLast opening log 0 sheet
  more : (fewer count : ℕ) (earlier sheet : SheetValue) (edit : EditValue) → UndoesLast opening log fewer earlier
      → Undoes opening (take (length log - fewer) log) (length log - fewer) edit
      → count ≡ suc fewer → sheet ≡ after_edit earlier edit → UndoesLast opening log count sheet

-- then the sheet is as before them, in every content
abbrev pub LastEntriesAreUndone : Type 0
LastEntriesAreUndone =
    (opening : SheetValue) (log : List Entry) (count : ℕ) (sheet : SheetValue) → IsSheet opening → AreFor opening log
    → AreWhole log → UndoesLast opening log count sheet → sheet ≡ after opening (take (length log - count) log)
