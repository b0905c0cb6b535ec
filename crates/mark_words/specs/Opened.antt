-- What the opening of a table gives.
use Rattle.std.specs.Prelude.{◌≡◌, ℕ, List, Option}
use Rattle.mark_core.specs.declared.subjects.Subject.{Ghosts}
use Rattle.mark_words.specs.declared.marks.Marks.{Marks}
use Rattle.mark_words.specs.declared.seats.Seat.{Seat}
use Rattle.mark_words.specs.Doing.{first_doing}
use Rattle.mark_words.specs.Tokens.{subject_of, topic_of, places_of, doing_of, IsSeatOf}

-- the table is about the subject with these codes and has its places, and the seat is one of it, with what the editor
-- begins with
pub record HasOpened {S E : Type 0} {G : Ghosts S E} (places : S → ℕ) (subject : S) (opening : List (Option ℕ))
    (marks : Marks S E) (seat : Seat S E G) : Type 0 where
  pub same_subject : subject_of marks ≡ subject
  pub same_codes : (topic_of marks).opening.value ≡ opening
  pub sized : places_of marks ≡ places (subject_of marks)
  pub same_table : IsSeatOf marks seat
  pub begins : doing_of seat ≡ first_doing (topic_of marks)
