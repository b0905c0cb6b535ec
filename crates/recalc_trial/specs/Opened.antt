-- Words over a sheet as they open.
use Rattle.std.specs.Prelude.{◌≡◌, [], None, true}
use Rattle.mark_core.specs.declared.subjects.Subject.{Ghosts}
use Rattle.mark_words.specs.declared.marks.Marks.{Marks}
use Rattle.mark_words.specs.declared.seats.Seat.{Seat}
use Rattle.mark_words.specs.Tokens.{IsSeatOf, edits_of, is_editor, log_of, subject_of}
use Rattle.sheet_model.specs.Sheets.{SheetValue}
use Rattle.sheet_model.specs.declared.entry.Entry.{Entry}

-- the words are for the sheet, and the seat is the editor's, with no entries and none pending
pub record IsOpenedOver {G : Ghosts SheetValue Entry} (sheet : SheetValue) (opened : Marks SheetValue Entry × Seat SheetValue Entry G) : Type 0 where
  pub subject : subject_of opened.0 ≡ sheet
  pub seat : IsSeatOf opened.0 opened.1
  pub editor : is_editor opened.1 ≡ true
  pub log : log_of opened.1 ≡ []
  pub idle : (edits_of opened.1).pending ≡ None
