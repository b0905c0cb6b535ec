-- What each step tells its seat.
use Rattle.std.specs.Prelude.{◌≡◌, ◌≢◌, ◌≤◌, ◌+◌, ◌*◌, ℕ, List, Some, None, true, length}
use mathlib.Core.Option.{some}
use Rattle.atomic_table.specs.Table.{Me, Step}
use Rattle.mark_core.specs.declared.words.Clean.{Clean}
use Rattle.mark_core.specs.Marks.{IsPrefix}
use Rattle.mark_core.specs.declared.events.Event.TheVariants.{See, Mark, Commit, ReadClean, ReadValue, ReadMark, Claim, Put, Finish}
use Rattle.mark_words.specs.declared.tables.Doing.{Doing}
use Rattle.mark_words.specs.declared.tables.History.{History}
use Rattle.mark_words.specs.Steps.{OneMore}
use Rattle.mark_words.specs.Words.{clean_at, word_of_clean}
use Rattle.mark_words.specs.Doing.{with_see, with_mark, with_commit}
use Rattle.mark_words.specs.Doing.{with_clean_read, with_value_read, with_mark_read, with_claim, with_refusal, with_word_put, with_finish}
use Rattle.mark_words.specs.Reads.{TellsOfRead}

-- The seat has seen the count that it found, which isn't below what it had seen; the editor's is the length of its
-- log, which is that of its edits. The shorter log of its last join is a prefix of its own.
pub record Saw {S E : Type 0} (step : Step E) (before : Me E (History S E)) (found : ℕ) (after : Me E (History S E)) : Type 0 where
  pub slots : after.1 ≡ before.1
  pub doing : after.0.doing ≡ with_see before.0.doing found
  pub one : OneMore before.0.steps after.0.steps See found
  pub seen : before.0.doing.view.seen ≤ found
  pub within : length before.0.doing.view.log ≤ found
  pub editor :
      before.0.doing.editor ≡ true
      → (found ≡ length before.0.doing.view.log) × (before.0.doing.view.log ≡ before.0.doing.edits.log)
  pub shorter : IsPrefix before.0.doing.shorter before.0.doing.view.log

-- the entry that the step brings is pending, and the place of the word is marked for it with the number stored
pub record Marked {S E : Type 0} (step : Step E) (before : Me E (History S E)) (found : ℕ) (after : Me E (History S E)) : Type 0 where
  pub slots : after.1 ≡ before.1
  pub doing :
      (place : ℕ) (entry : E) → step.word ≡ 3 * place + 1 → step.said ≡ some entry
      → after.0.doing ≡ with_mark before.0.doing entry place step.second
  pub one :
      (place : ℕ) (entry : E) → step.word ≡ 3 * place + 1 → step.said ≡ some entry
      → OneMore before.0.steps after.0.steps (λ view. Mark view entry place) step.second

-- the pending entry is in the log
pub record Committed {S E : Type 0} (step : Step E) (before : Me E (History S E)) (found : ℕ) (after : Me E (History S E)) : Type 0 where
  pub slots : after.1 ≡ before.1
  pub entry : E
  pub pending : before.0.doing.edits.pending ≡ Some entry
  pub doing : after.0.doing ≡ with_commit before.0.doing entry
  pub one : OneMore before.0.steps after.0.steps (λ view. Commit view entry) found

-- of what the seat knew, all stays but its reads, what it holds and knows as computed, and what it has done and lost
pub record KeepsRest {S E : Type 0} (before after : Doing S E) : Type 0 where
  pub subject : after.subject ≡ before.subject
  pub editor : after.editor ≡ before.editor
  pub edits : after.edits ≡ before.edits
  pub marks : after.marks ≡ before.marks
  pub spent : after.view.spent ≡ before.view.spent
  pub log : after.view.log ≡ before.view.log
  pub seen : after.view.seen ≡ before.view.seen

-- its reads stay
pub record KeepsReads {S E : Type 0} (before after : Doing S E) : Type 0 where
  pub half : after.view.half ≡ before.view.half
  pub reads : after.view.reads ≡ before.view.reads

-- the seat has begun a read of the place of the word, with the clean word that it found
pub record BeganRead {S E : Type 0} (step : Step E) (before : Me E (History S E)) (found : ℕ) (after : Me E (History S E)) : Type 0 where
  pub slots : after.1 ≡ before.1
  pub rest : KeepsRest before.0.doing after.0.doing
  pub doing : (place : ℕ) → step.word ≡ 3 * place + 2 → after.0.doing ≡ with_clean_read before.0.doing place (clean_at found)
  pub one : (place : ℕ) → step.word ≡ 3 * place + 2 → OneMore before.0.steps after.0.steps (λ view. ReadClean view place) found

-- the seat's begun read, if it is one of the place of the word, has the value that it found
pub record WentOn {S E : Type 0} (step : Step E) (before : Me E (History S E)) (found : ℕ) (after : Me E (History S E)) : Type 0 where
  pub slots : after.1 ≡ before.1
  pub rest : KeepsRest before.0.doing after.0.doing
  pub doing : (place : ℕ) → step.word ≡ 3 * place + 3 → after.0.doing ≡ with_value_read before.0.doing place found
  pub one : (place : ℕ) → step.word ≡ 3 * place + 3 → OneMore before.0.steps after.0.steps (λ view. ReadValue view place) found

-- The seat's begun read, if it is one of the place of the word, has ended with the mark that it found, and tells what
-- it should of the subject that the seat names. The seat has seen at least as many entries as it knows. The editor's,
-- with nothing pending, finds a mark within its log.
pub record EndedRead {S E : Type 0} (worth : S → List E → ℕ → ℕ) (touches : S → List E → E → ℕ → Type 0) (step : Step E)
    (before : Me E (History S E)) (found : ℕ) (after : Me E (History S E)) : Type 0 where
  pub slots : after.1 ≡ before.1
  pub rest : KeepsRest before.0.doing after.0.doing
  pub doing : (place : ℕ) → step.word ≡ 3 * place + 1 → after.0.doing ≡ with_mark_read before.0.doing place found
  pub one : (place : ℕ) → step.word ≡ 3 * place + 1 → OneMore before.0.steps after.0.steps (λ view. ReadMark view place) found
  pub within : length before.0.doing.view.log ≤ before.0.doing.view.seen
  pub tells :
      (place : ℕ) (subject : S) → step.word ≡ 3 * place + 1 → before.0.doing.subject ≡ Some subject
      → TellsOfRead (worth subject) (touches subject) before.0.doing place found
  pub editor : before.0.doing.editor ≡ true → before.0.doing.edits.pending ≡ None → found ≤ length before.0.doing.view.log

-- the seat holds the place of the word where it found the word that it expected, and has noted the clean word where it
-- found another
pub record TriedClaim {S E : Type 0} (step : Step E) (before : Me E (History S E)) (found : ℕ) (after : Me E (History S E)) : Type 0 where
  pub slots : after.1 ≡ before.1
  pub rest : KeepsRest before.0.doing after.0.doing
  pub reads : KeepsReads before.0.doing after.0.doing
  pub one :
      (place : ℕ) (seen : Clean) → step.word ≡ 3 * place + 2 → step.first ≡ word_of_clean seen
      → OneMore before.0.steps after.0.steps (λ view. Claim view place seen) found
  pub taken : (place : ℕ) → step.word ≡ 3 * place + 2 → found ≡ step.first → after.0.doing ≡ with_claim before.0.doing place
  pub refused :
      (place : ℕ) → step.word ≡ 3 * place + 2 → found ≢ step.first → after.0.doing ≡ with_refusal before.0.doing place (clean_at found)

-- the seat has put the word that it stored in the place of the word
pub record PutWord {S E : Type 0} (step : Step E) (before : Me E (History S E)) (found : ℕ) (after : Me E (History S E)) : Type 0 where
  pub slots : after.1 ≡ before.1
  pub rest : KeepsRest before.0.doing after.0.doing
  pub reads : KeepsReads before.0.doing after.0.doing
  pub doing : (place : ℕ) → step.word ≡ 3 * place + 3 → after.0.doing ≡ with_word_put before.0.doing place step.first
  pub one : (place : ℕ) → step.word ≡ 3 * place + 3 → OneMore before.0.steps after.0.steps (λ view. Put view place step.first) step.first

-- the seat has given the place of the word back, as computed for the mark that it stored
pub record GaveBack {S E : Type 0} (step : Step E) (before : Me E (History S E)) (found : ℕ) (after : Me E (History S E)) : Type 0 where
  pub slots : after.1 ≡ before.1
  pub rest : KeepsRest before.0.doing after.0.doing
  pub reads : KeepsReads before.0.doing after.0.doing
  pub doing : (place mark : ℕ) → step.word ≡ 3 * place + 2 → step.first ≡ 2 * (mark + 1) → after.0.doing ≡ with_finish before.0.doing place mark
  pub one :
      (place mark : ℕ) → step.word ≡ 3 * place + 2 → step.first ≡ 2 * (mark + 1)
      → OneMore before.0.steps after.0.steps (λ view. Finish view place mark) step.first
