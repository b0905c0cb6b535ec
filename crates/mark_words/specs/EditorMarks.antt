-- What the editor's seat knows at run time.
use Rattle.std.specs.Prelude.{◌≡◌, ◌<◌, ◌≤◌, ◌+◌, ◌*◌, ◌^◌, ℕ, true, Option, Some, is_some, IsSome, length, All}
use Rattle.std.specs.Option.{ForSome}
use Rattle.mark_core.specs.declared.words.Half.{Half}
use Rattle.mark_words.specs.declared.tables.Doing.{Doing}
use Rattle.mark_words.specs.declared.seats.EditorMarks.{EditorMarks}

-- The editor's seat has such marks and no other has, with the length of its log and the marks that it knows, one for
-- each place of a table of so many words.
pub record HasEditorMarks {S E : Type 0} (words : ℕ) (doing : Doing S E) (own : Option EditorMarks) : Type 0 where
  pub editor : doing.editor ≡ is_some own
  pub count : ForSome own (λ d. d.count ≡ length doing.view.log)
  pub marks : ForSome own (λ d. d.marks.items ≡ doing.marks)
  pub places : ForSome own (λ d. words ≡ 3 * length d.marks.items + 1)

-- The editor's seat knows the whole log, and has seen its length. A log with a pending entry has room for it, since
-- places were marked with its number.
pub record KnowsAll {S E : Type 0} (doing : Doing S E) : Type 0 where
  pub log : doing.editor ≡ true → doing.view.log ≡ doing.edits.log
  pub seen : doing.editor ≡ true → doing.view.seen ≡ length doing.view.log
  pub number : doing.editor ≡ true → IsSome doing.edits.pending → length doing.view.log < 1048576

-- What a seat knows fits in words: its log has at most 1,048,576 entries, and the clean words that it read come from
-- words.
pub record FitsWords {S E : Type 0} (doing : Doing S E) : Type 0 where
  pub log : length doing.view.log ≤ 1048576
  pub half : (half : Half) → doing.view.half ≡ Some half → half.clean.upto < 2 ^ 63
  pub reads : All (λ read. read.clean.upto < 2 ^ 63) doing.view.reads
