-- What a slice of a worker without a job finds and does.
use Rattle.std.specs.Prelude.{◌≡◌, ◌≤◌, ◌<◌, ℕ, List, [], false, IsTrue}
use Rattle.sheet_refs.specs.Sizes.{is_inside}
use Rattle.value_core.specs.Values.{code_of}
use Rattle.mark_core.specs.declared.actors.View.{View}
use Rattle.mark_core.specs.declared.subjects.Subject.{Ghosts as SubjectGhosts}
use Rattle.edit_log.specs.Touches.{TouchesPlace}
use Rattle.recalc_workers.specs.declared.desk.Desk.{Desk as WorkerDesk}
use Rattle.recalc_workers.specs.Desks.{seat_of, hand_of}
use Rattle.recalc_workers.specs.Seats.{HasDoneNothing}
use Rattle.recalc_workers.specs.Settling.{KeepsDesk, KnowsPlace}
use Rattle.recalc_workers.specs.Visits.{KnowsFinished}
use Rattle.sheet_model.specs.Sheets.{SheetValue}
use Rattle.sheet_model.specs.Values.{value_of}
use Rattle.std.specs.declared.sync.ledger.Ledger.{Ghosts as LedgerGhosts}
use Rattle.live_sheet.specs.declared.desk.Desk.{Desk}
use Rattle.live_sheet.specs.declared.naming.Naming.{Ghosts}
use Rattle.live_sheet.specs.declared.round.Seen.{Seen}
use Rattle.live_sheet.specs.declared.valuing.Valued.{Valued}
use Rattle.live_sheet.specs.Firm.{HasSettled}

-- neither a stale cell nor a held one was found
pub record IsClear (seen : Seen) : Type 0 where
  pub none : seen.stale.items ≡ []
  pub free : seen.held ≡ false

-- the view knows the places from one up to another as clean
abbrev pub KnowsFrom : {E : Type 0} → (List E → E → ℕ → Type 0) → View (List E) → ℕ → ℕ → Type 0
KnowsFrom touches view start end = (place : ℕ) → start ≤ place → place < end → KnowsPlace touches view place

-- the word is the code of the cell's value in the sheet
pub record IsValued (sheet : SheetValue) (valued : Valued) : Type 0 where
  pub inside : IsTrue (is_inside sheet.sizes valued.cell)
  pub code : code_of (value_of sheet valued.cell) ≡ valued.word

-- the desk has lost nothing, holds no place, and has finished none
pub record HasLookedOn {S E : Type 0} {G : SubjectGhosts S E} (old new : WorkerDesk S E G) : Type 0 where
  pub kept : KeepsDesk old new
  pub idle : HasDoneNothing (seat_of old) (seat_of new)

module _ {N : Type 0} {G : Ghosts N} {L : LedgerGhosts N} where
  -- the desk's hand is as it was, and its seat knows each cell that it has finished since as clean
  pub record HasSliced (opening : SheetValue) (old new : Desk N G L) : Type 0 where
    pub hand : hand_of new.desk ≡ hand_of old.desk
    pub finished : KnowsFinished (TouchesPlace opening) (seat_of old.desk) (seat_of new.desk)

  -- the desk's seat has settled the sheet
  abbrev pub HasSettledAt : SheetValue → Desk N G L → Desk N G L → Type 0
  HasSettledAt opening old new = HasSettled opening (seat_of old.desk) (seat_of new.desk)
