-- Firm looks.
use Rattle.std.specs.Prelude.{◌≡◌, ◌≤◌, ◌+◌, ℕ, List, length, map}
use Rattle.sheet_refs.specs.Cells.{Position, Corners, IsIn, cells_of}
use Rattle.mark_core.specs.declared.subjects.Subject.{Ghosts}
use Rattle.mark_words.specs.declared.seats.Seat.{Seat}
use Rattle.mark_words.specs.Tokens.{view_of, log_of, seen_of}
use Rattle.edit_log.specs.Touches.{TouchesPlace}
use Rattle.sheet_model.specs.Boards.{BoardValue}
use Rattle.sheet_model.specs.Logs.{after}
use Rattle.sheet_model.specs.Sheets.{SheetValue}
use Rattle.sheet_model.specs.Values.{value_of}
use Rattle.sheet_model.specs.declared.board.Shown.{Shown}
use Rattle.sheet_model.specs.declared.board.Shown.TheVariants.{Value}
use Rattle.sheet_model.specs.declared.entry.Entry.{Entry}
use Rattle.live_sheet.specs.declared.loads.Loads.{Loads}
use Rattle.recalc_workers.specs.Seats.{HasDoneNothing, Keeps}
use Rattle.live_sheet.specs.declared.naming.Naming.{Ghosts as NamingGhosts}
use Rattle.live_sheet.specs.declared.pass.Pass.{Pass}
use Rattle.live_sheet.specs.Passes.{KeepsOffice}
use Rattle.live_sheet.specs.Ranges.{KnowsAll}
use Rattle.live_sheet.specs.Stale.{KnowsCell}

-- what a read loaded is clean, with a mark within the log, and the value is the worth of the place after it
pub record AreOfWorth {E : Type 0} (worth : List E → ℕ → ℕ) (log : List E) (place : ℕ) (loads : Loads) : Type 0 where
  pub clean : loads.clean.upto ≡ loads.mark + 1
  pub within : loads.mark ≤ length log
  pub worth_is : worth log place ≡ loads.word

-- what is shown of a cell by its value in a sheet
abbrev pub value_shown : SheetValue → Position → Shown
value_shown sheet cell = Value (value_of sheet cell)

-- the board tells of this number of edits, and shows of each cell of the window, row by row, the value that it has in the sheet
pub record ShowsValues (sheet : SheetValue) (number : ℕ) (window : Corners) (room : ℕ) (board : BoardValue) : Type 0 where
  pub number_is : board.number ≡ number
  pub window_is : board.window ≡ window
  pub room_is : board.room ≡ room
  pub cells : board.cells ≡ map (value_shown sheet) (cells_of window)

-- A firm look from one moment of a seat to another: the board tells of the log that the seat knows then, which isn't
-- shorter than what it had seen; each cell of the window shows its value after that log; and the seat knows each of them
-- as clean.
pub record IsFirmLook {G : Ghosts SheetValue Entry} (opening : SheetValue) (window : Corners)
    (old new : Seat SheetValue Entry G) (room : ℕ) (board : BoardValue) : Type 0 where
  pub shows : ShowsValues (after opening (log_of new)) (length (log_of new)) window room board
  pub covers : seen_of old ≤ board.number
  pub known : (cell : Position) → IsIn cell window → KnowsCell (TouchesPlace opening) opening.sizes (view_of new) cell

-- A seat has settled a sheet: it knows each cell of it as clean, over a log that isn't shorter than what it had seen.
pub record HasSettled {G : Ghosts SheetValue Entry} (opening : SheetValue) (old new : Seat SheetValue Entry G) : Type 0 where
  pub covers : seen_of old ≤ length (log_of new)
  pub known : KnowsAll (TouchesPlace opening) opening.sizes (view_of new)

module _ {N : Type 0} {G : NamingGhosts N} where
  -- the pass has lost nothing that it knew, had seen and had read, and holds no place; its client, its accepted edits and
  -- its offers are as they were
  pub record KeepsPass (old new : Pass N G) : Type 0 where
    pub seat : Keeps old.seat new.seat
    pub idle : HasDoneNothing old.seat new.seat
    pub office : KeepsOffice old new

  -- the pass has had a firm look
  abbrev pub IsFirmLookOf : SheetValue → Corners → Pass N G → Pass N G → ℕ → BoardValue → Type 0
  IsFirmLookOf opening window old new room board = IsFirmLook opening window old.seat new.seat room board

  -- the pass has settled the sheet
  abbrev pub HasSettledBy : SheetValue → Pass N G → Pass N G → Type 0
  HasSettledBy opening old new = HasSettled opening old.seat new.seat
