-- The words, the editor's seat, the jobs and a hand before anything was done.
use Rattle.std.specs.Prelude.{◌≡◌}
use Rattle.atomic_table.specs.Seated.{TableId}
use Rattle.sheet_model.specs.Sheets.{SheetValue}
use Rattle.sheet_model.specs.declared.entry.Entry.{Entry}
use Rattle.mark_core.specs.declared.subjects.Subject.{Ghosts}
use Rattle.mark_words.specs.declared.marks.Marks.{Marks}
use Rattle.mark_words.specs.declared.seats.Seat.{Seat}
use Rattle.mark_words.specs.Tokens.{IsSeatOf, table_of, topic_of, subject_of, doing_of}
use Rattle.mark_words.specs.Doing.{first_doing}
use Rattle.recalc_workers.specs.declared.hands.Hand.{Hand}
use Rattle.recalc_workers.specs.declared.hands.Jobs.{Jobs}
use Rattle.recalc_workers.specs.Hands.{IsHandOf, sizes_of}
use Rattle.live_sheet.specs.Held.{queue_of}

-- The words are those of this table and of this opening sheet, and the editor's seat is as it opened. The jobs are those of
-- this queue and of a sheet of these sizes, and the hand is one of them.
pub record IsStart {G : Ghosts SheetValue Entry} (words queue : TableId) (opening : SheetValue)
    (marks : Marks SheetValue Entry) (editor : Seat SheetValue Entry G) (jobs : Jobs) (hand : Hand) : Type 0 where
  pub words_are : table_of marks ≡ words
  pub subject_is : subject_of marks ≡ opening
  pub seat : IsSeatOf marks editor
  pub begins : doing_of editor ≡ first_doing (topic_of marks)
  pub queue_is : queue_of jobs ≡ queue
  pub sizes_are : sizes_of jobs ≡ opening.sizes
  pub hand_is : IsHandOf jobs hand
