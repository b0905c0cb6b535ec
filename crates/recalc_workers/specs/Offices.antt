-- What an office works at, and what it tells of a cell.
use Rattle.std.specs.Prelude.{◌≡◌, ◌≤◌, ◌↔◌, Bool, Some, length, IsTrue}
use Rattle.sheet_refs.specs.Cells.{Position}
use Rattle.mark_core.specs.declared.subjects.Subject.{Ghosts}
use Rattle.mark_words.specs.declared.marks.Marks.{Marks}
use Rattle.mark_words.specs.declared.seats.Seat.{Seat}
use Rattle.mark_words.specs.Tokens.{TableId, table_of, subject_of, seat_table, doing_of, log_of, seen_of}
use Rattle.sheet_model.specs.Logs.{after}
use Rattle.sheet_model.specs.Sheets.{SheetValue, IsSheet, content_value, content_of}
use Rattle.sheet_model.specs.declared.entry.Entry.{Entry}
use Rattle.recalc_workers.specs.declared.task.Task.{Task}
use Rattle.recalc_workers.specs.Turns.{IsOnCycle}

-- a table of words: which it is, and what it is about
pub record WordsFor (S : Type 0) : Type 0 where
  pub id : TableId
  pub subject : S

abbrev pub words_for : {S E : Type 0} → Marks S E → WordsFor S
words_for marks = record { id = table_of marks; subject = subject_of marks }

-- the seat is one of the table
pub record IsSeatAt {S E : Type 0} {G : Ghosts S E} (words : WordsFor S) (seat : Seat S E G) : Type 0 where
  pub same_table : seat_table seat ≡ words.id
  pub same_subject : (doing_of seat).subject ≡ Some words.subject

-- the task has the length of the log that the seat knows, and what stands in the cell after it; and after it there is a
-- sheet
pub record IsTaskAt {S : Type 0} {G : Ghosts S Entry} (opening : SheetValue) (seat : Seat S Entry G) (cell : Position) (task : Task) : Type 0 where
  pub length_is : task.length ≡ length (log_of seat)
  pub content_is : content_value task.content ≡ content_of (after opening (log_of seat)) cell
  pub sheet : IsSheet (after opening (log_of seat))

-- the task is one at what the seat knows then, and its length no less than what the seat had seen
pub record IsTaskFor {S : Type 0} {G : Ghosts S Entry} (opening : SheetValue) (old : Seat S Entry G) (cell : Position)
    (new : Seat S Entry G) (task : Task) : Type 0 where
  pub at : IsTaskAt opening new cell task
  pub covers : seen_of old ≤ task.length

-- the answer is whether the cell is on a cycle after the log that the seat knows then, after which there is a sheet
pub record TellsCycle {S : Type 0} {G : Ghosts S Entry} (opening : SheetValue) (cell : Position) (new : Seat S Entry G) (answer : Bool) : Type 0 where
  pub on_cycle : IsTrue answer ↔ IsOnCycle (after opening (log_of new)) cell
  pub sheet : IsSheet (after opening (log_of new))
