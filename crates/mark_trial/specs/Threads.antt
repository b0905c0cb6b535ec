-- What the tests with threads keep.
use Rattle.std.specs.Prelude.{◌≡◌, ◌<◌, ◌+◌, ℕ, List, [], ◌∷◌, ◌++◌, Some, None, true, length, Contains}
use Rattle.mark_core.specs.declared.words.Clean.{Clean}
use Rattle.mark_core.specs.declared.words.Half.{Half}
use Rattle.mark_core.specs.Views.{read_of}
use Rattle.mark_core.specs.declared.subjects.Subject.{Ghosts}
use Rattle.mark_words.specs.declared.tables.Doing.{Doing}
use Rattle.mark_words.specs.declared.marks.Marks.{Marks}
use Rattle.mark_words.specs.declared.seats.Seat.{Seat}
use Rattle.mark_words.specs.Reads.{TellsOf}
use Rattle.mark_words.specs.Tokens.{IsSeatOf, places_of, is_editor, edits_of, log_of}
use Rattle.mark_trial.specs.TwoTestCells.{last_or}

-- the seat is the editor's one of a table with two places, with so many entries and none that is pending
pub record IsReadyEditor {S E : Type 0} {G : Ghosts S E} (marks : Marks S E) (seat : Seat S E G) (count : ℕ) : Type 0 where
  pub table : IsSeatOf marks seat
  pub editor : is_editor seat ≡ true
  pub two : places_of marks ≡ 2
  pub pending : (edits_of seat).pending ≡ None
  pub marked : (edits_of seat).marked ≡ []
  pub entries : length (log_of seat) ≡ count

-- the seat is one of the table, and knows no entry
pub record IsBlank {S E : Type 0} {G : Ghosts S E} (marks : Marks S E) (seat : Seat S E G) : Type 0 where
  pub table : IsSeatOf marks seat
  pub none : log_of seat ≡ []

-- The seat has read the place in three loads: the floor was above each mark for which it knew the place as computed,
-- the read tells what it should, and nothing else of what the seat knew has gone.
pub record HasReadPlace {S E : Type 0} (worth : List E → ℕ → ℕ) (touches : List E → E → ℕ → Type 0) (before : Doing S E)
    (place : ℕ) (clean : Clean) (word mark : ℕ) (after : Doing S E) : Type 0 where
  pub half : Half
  pub same_place : half.place ≡ place
  pub same_clean : half.clean ≡ clean
  pub same_word : half.word ≡ Some word
  pub above : (known : ℕ) → Contains before.view.known (record { place = place; mark = known }) → known < half.floor
  pub tells : TellsOf worth touches before.view half mark
  pub reads : after.view.reads ≡ before.view.reads ++ read_of before.view.seen half mark ∷ []
  pub learns : clean.upto ≡ mark + 1 → Contains after.view.known (record { place = place; mark = mark })
  pub log : after.view.log ≡ before.view.log
  pub seen : after.view.seen ≡ before.view.seen

-- the seat is one of a table over two cells, and knows so many entries, of which this is the last
pub record KnowsLast {S : Type 0} {G : Ghosts S ℕ} (marks : Marks S ℕ) (seat : Seat S ℕ G) (count last : ℕ) : Type 0 where
  pub table : IsSeatOf marks seat
  pub two : places_of marks ≡ 2
  pub entries : length (log_of seat) ≡ count
  pub ends : last_or 1 (log_of seat) ≡ last
