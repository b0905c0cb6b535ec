-- What the seats, hands and desks of a live sheet belong to.
use Rattle.std.specs.Prelude.{◌≡◌, ◌≤◌, List, [], true, Some, None, length}
use Rattle.atomic_table.specs.Seated.{TableId}
use Rattle.crossbeam_queue.specs.Passes.{view}
use Rattle.mark_core.specs.declared.subjects.Subject.{Ghosts}
use Rattle.mark_words.specs.declared.seats.Seat.{Seat}
use Rattle.sheet_model.specs.Sheets.{SheetValue}
use Rattle.sheet_refs.specs.Sizes.{cell_count}
use Rattle.mark_words.specs.declared.marks.Marks.{Marks}
use Rattle.mark_words.specs.Tokens.{table_of, subject_of, places_of, seat_table, doing_of, log_of, seen_of, edits_of, is_editor}
use Rattle.recalc_workers.specs.declared.desk.Desk.{Desk}
use Rattle.recalc_workers.specs.declared.hands.Hand.{Hand}
use Rattle.recalc_workers.specs.declared.hands.Jobs.{Jobs}
use Rattle.recalc_workers.specs.Desks.{seat_of, hand_of}
use Rattle.recalc_workers.specs.Seats.{HoldsNothing}
use Rattle.sheet_refs.specs.declared.sizes.Sizes.{Sizes}

-- which queue the jobs are in
abbrev pub queue_of : Jobs → TableId
queue_of jobs = jobs.queue.table.shared.table_id

-- the seat is one of the table, for the subject of this opening sheet
pub record IsSeatIn {S E : Type 0} {G : Ghosts S E} (words : TableId) (subject : S) (seat : Seat S E G) : Type 0 where
  pub table : seat_table seat ≡ words
  pub about : (doing_of seat).subject ≡ Some subject

-- the hand is one of the queue, for the jobs of a sheet of these sizes
pub record IsHandIn (queue : TableId) (sizes : Sizes) (hand : Hand) : Type 0 where
  pub table : hand.pass.table_id ≡ queue
  pub slots : hand.pass.me.1 ≡ []
  pub sizes_are : (view hand.pass).sizes ≡ sizes

-- The seat is the editor's. It knows this log and has seen its length, nothing is pending, and it holds no place.
pub record IsEditorIn {S E : Type 0} {G : Ghosts S E} (words : TableId) (subject : S) (log : List E) (seat : Seat S E G) : Type 0 where
  pub belongs : IsSeatIn words subject seat
  pub editor : is_editor seat ≡ true
  pub log_is : log_of seat ≡ log
  pub seen : seen_of seat ≡ length log
  pub idle : (edits_of seat).pending ≡ None
  pub free : HoldsNothing seat

-- the seat is one of the table and not the editor's, and holds no place
pub record IsFreeSeat {S E : Type 0} {G : Ghosts S E} (words : TableId) (subject : S) (seat : Seat S E G) : Type 0 where
  pub belongs : IsSeatIn words subject seat
  pub free : HoldsNothing seat

-- the desk's seat is one of the table, and its hand one of the queue; desks keep that they hold no place
pub record IsDeskIn {S E : Type 0} {G : Ghosts S E} (words queue : TableId) (subject : S) (sizes : Sizes) (desk : Desk S E G) : Type 0 where
  pub seat : IsSeatIn words subject (seat_of desk)
  pub hand : IsHandIn queue sizes (hand_of desk)

-- the words are those of the table and of the opening sheet, with a place for each of its cells, which are few enough
pub record AreWordsOf {E : Type 0} (words : TableId) (opening : SheetValue) (marks : Marks SheetValue E) : Type 0 where
  pub table : table_of marks ≡ words
  pub about : subject_of marks ≡ opening
  pub places : places_of marks ≡ cell_count opening.sizes
  pub small : cell_count opening.sizes ≤ 1048576
