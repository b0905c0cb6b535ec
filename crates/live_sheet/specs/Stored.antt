-- What a desk has stored of cells, from the times that its worker had the lock.
use Rattle.std.specs.Prelude.{◌≡◌, ◌≤◌, ℕ, List, Option, Some, None, IsTrue, IfSome, All, length, take}
use Rattle.atomic_table.specs.Seated.{TableId}
use Rattle.sheet_refs.specs.Cells.{Position}
use Rattle.mark_core.specs.declared.subjects.Subject.{Ghosts}
use Rattle.mark_words.specs.declared.seats.Seat.{Seat}
use Rattle.mark_words.specs.Tokens.{log_of, seen_of}
use Rattle.recalc_workers.specs.Turns.{IsOnCycle}
use Rattle.sheet_model.specs.Logs.{after}
use Rattle.sheet_model.specs.Sheets.{SheetValue, IsSheet, content_of, content_value}
use Rattle.sheet_model.specs.declared.entry.Entry.{Entry}
use Rattle.live_sheet.specs.Held.{IsSeatIn}
use Rattle.live_sheet.specs.declared.stored.Stored.{Stored}

-- the sheet after the first entries of a log, so many
abbrev pub sheet_at : SheetValue → List Entry → ℕ → SheetValue
sheet_at opening log count = after opening (take count log)

-- what is stored stands in the cell after the first entries of a log, as many as it says; and where the cell is on a cycle
-- then, it says that it may be
pub record IsStored (opening : SheetValue) (log : List Entry) (stored : Stored) : Type 0 where
  pub within : stored.count ≤ length log
  pub sheet : IsSheet (sheet_at opening log stored.count)
  pub content_is : content_value stored.content ≡ content_of (sheet_at opening log stored.count) stored.cell
  pub circular : IsOnCycle (sheet_at opening log stored.count) stored.cell → IsTrue stored.may_be_on_cycle

-- what each slot has is so
abbrev pub AreStored : SheetValue → List Entry → List (Option Stored) → Type 0
AreStored opening log slots = All (λ (slot : Option Stored). IfSome slot (IsStored opening log)) slots

abbrev pub AreEmpty : List (Option Stored) → Type 0
AreEmpty slots = All (λ slot. slot ≡ None) slots

-- it is what a slot has, of this cell and this number of entries
pub record IsInSlot (slot : Option Stored) (cell : Position) (count : ℕ) (stored : Stored) : Type 0 where
  pub is : slot ≡ Some stored
  pub of_cell : stored.cell ≡ cell
  pub of_count : stored.count ≡ count

-- it is of this cell and this number of entries, and is so for a log where what each slot has is
pub record IsFound (slots : List (Option Stored)) (cell : Position) (count : ℕ) (stored : Stored) : Type 0 where
  pub of_cell : stored.cell ≡ cell
  pub of_count : stored.count ≡ count
  pub among : (opening : SheetValue) (log : List Entry) → AreStored opening log slots → IsStored opening log stored

-- what the slots have stays so, for a log for which what comes in is so
abbrev pub StoresOne : List (Option Stored) → Stored → List (Option Stored) → Type 0
StoresOne old stored new =
    (opening : SheetValue) (log : List Entry) → AreStored opening log old → IsStored opening log stored → AreStored opening log new

-- a store: its seat is one of the table, it has the length of the log that the seat knows, and what its slots have is so for
-- that log
pub record IsStore {G : Ghosts SheetValue Entry} (words : TableId) (opening : SheetValue) (seat : Seat SheetValue Entry G) (count : ℕ)
    (slots : List (Option Stored)) : Type 0 where
  pub belongs : IsSeatIn words opening seat
  pub counted : count ≡ length (log_of seat)
  pub each : AreStored opening (log_of seat) slots

-- the seat knows the log of another one, which is no shorter than what it had seen
pub record HasCaughtUp {S E : Type 0} {G : Ghosts S E} (old other new : Seat S E G) : Type 0 where
  pub log : log_of new ≡ log_of other
  pub covers : seen_of old ≤ length (log_of other)
