-- The words of a live sheet, and what work at a desk leaves.
use Rattle.std.specs.Prelude.{◌≡◌}
use Rattle.atomic_table.specs.Seated.{TableId}
use Rattle.sheet_refs.specs.Sizes.{cell_count}
use Rattle.mark_words.specs.declared.marks.Marks.{Marks}
use Rattle.mark_words.specs.Tokens.{table_of, subject_of, places_of}
use Rattle.recalc_workers.specs.declared.turns.Turn.{Turn}
use Rattle.recalc_workers.specs.Again.{HasUsedJobs}
use Rattle.recalc_workers.specs.Desks.{hand_of, seat_of}
use Rattle.recalc_workers.specs.Hands.{is_sole}
use Rattle.recalc_workers.specs.Seats.{HoldsNothing, Keeps}
use Rattle.recalc_workers.specs.Turns.{HasCause}
use Rattle.sheet_model.specs.Sheets.{SheetValue}
use Rattle.std.specs.declared.sync.ledger.Ledger.{Ghosts as LedgerGhosts}
use Rattle.live_sheet.specs.declared.desk.Desk.{Desk}
use Rattle.live_sheet.specs.declared.naming.Naming.{Ghosts}

-- the words are the table of this name, about the cells of this opening sheet
pub record AreWordsNamed {E : Type 0} (words : TableId) (opening : SheetValue) (marks : Marks SheetValue E) : Type 0 where
  pub table : table_of marks ≡ words
  pub subject : subject_of marks ≡ opening
  pub places : places_of marks ≡ cell_count opening.sizes

module _ {N : Type 0} {G : Ghosts N} {L : LedgerGhosts N} where
  -- the desk's seat has lost nothing that it knew, had seen, had read and had done, and holds no place
  pub record KeepsSeat (old new : Desk N G L) : Type 0 where
    pub seat : Keeps (seat_of old.desk) (seat_of new.desk)
    pub free : HoldsNothing (seat_of new.desk)

  -- what a turn did with jobs, by the lists of the desk's hand
  pub record UsesJobs (opening : SheetValue) (old new : Desk N G L) (turn : Turn) : Type 0 where
    pub jobs : HasUsedJobs opening.sizes (hand_of old.desk) (hand_of new.desk) turn
    pub sole : is_sole (hand_of new.desk) ≡ is_sole (hand_of old.desk)

  -- the turn's cause is in what the desk's seat noted
  abbrev pub ComesWithCause : SheetValue → Desk N G L → Desk N G L → Turn → Type 0
  ComesWithCause opening old new turn = HasCause opening (seat_of old.desk) (seat_of new.desk) turn
