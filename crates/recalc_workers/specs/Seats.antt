-- What calls do to a seat of a desk, and what a read of a cell tells it.
use Rattle.std.specs.Prelude.{◌≡◌, ◌≤◌, ◌+◌, ℕ, List, [], ◌∷◌, ◌++◌, Some, length}
use Rattle.mark_core.specs.declared.words.Finished.{Finished}
use Rattle.mark_core.specs.declared.subjects.Subject.{Ghosts}
use Rattle.mark_core.specs.Marks.{IsPrefix, IsLastMark}
use Rattle.mark_core.specs.Knows.{KnowsClean}
use Rattle.mark_words.specs.declared.seats.Seat.{Seat}
use Rattle.mark_words.specs.Tokens.{seat_table, doing_of, own_steps, view_of, log_of, seen_of}
use Rattle.recalc_workers.specs.declared.reading.Reading.{Reading}

-- the seat holds no place
abbrev pub HoldsNothing : {S E : Type 0} {G : Ghosts S E} → Seat S E G → Type 0
HoldsNothing seat = (view_of seat).holds ≡ []

-- the seat is one of the same table and for the same subject, and nothing is lost of what it knew, had seen and had
-- read, nor of its steps
pub record Keeps {S E : Type 0} {G : Ghosts S E} (old new : Seat S E G) : Type 0 where
  pub table : seat_table new ≡ seat_table old
  pub subject : (doing_of new).subject ≡ (doing_of old).subject
  pub log : IsPrefix (log_of old) (log_of new)
  pub seen : seen_of old ≤ seen_of new
  pub known : IsPrefix (view_of old).known (view_of new).known
  pub reads : IsPrefix (view_of old).reads (view_of new).reads
  pub sees : IsPrefix (view_of old).sees (view_of new).sees
  pub steps : IsPrefix (own_steps old) (own_steps new)

-- the seat holds what it held, and has neither finished a place nor been refused one
pub record HasDoneNothing {S E : Type 0} {G : Ghosts S E} (old new : Seat S E G) : Type 0 where
  pub holds : (view_of new).holds ≡ (view_of old).holds
  pub done : (view_of new).done ≡ (view_of old).done
  pub lost : (view_of new).lost ≡ (view_of old).lost

-- a finished read is one of this place with these words
pub record IsReadOf (read : Finished) (place : ℕ) (reading : Reading) : Type 0 where
  pub place_is : read.place ≡ place
  pub clean : read.clean ≡ reading.clean
  pub word : read.word ≡ Some reading.word
  pub mark : read.mark ≡ reading.mark

-- the seat made one read more, of this place, with what it knew and had seen, and nothing else
pub record HasRead {S E : Type 0} {G : Ghosts S E} (old : Seat S E G) (place : ℕ) (reading : Reading) (new : Seat S E G) : Type 0 where
  pub keeps : Keeps old new
  pub idle : HasDoneNothing old new
  pub log : log_of new ≡ log_of old
  pub sees : (view_of new).sees ≡ (view_of old).sees
  pub read : Finished
  pub is : IsReadOf read place reading
  pub one : (view_of new).reads ≡ (view_of old).reads ++ read ∷ []
  pub number : length (log_of old) ≤ read.number

-- The value was computed for no later mark. A mark within the log is the place's last one in it; and where the value
-- was computed for it, the value is the worth of the place after the log, and the view knows the place as clean.
pub record TellsOver {S E : Type 0} {G : Ghosts S E} (worth : List E → ℕ → ℕ) (touches : List E → E → ℕ
    → Type 0) (place : ℕ) (reading : Reading) (seat : Seat S E G) : Type 0 where
  pub upto : reading.clean.upto ≤ reading.mark + 1
  pub last : reading.mark ≤ length (log_of seat) → IsLastMark touches (log_of seat) place reading.mark
  pub worth_is : reading.clean.upto ≡ reading.mark + 1 → reading.mark ≤ length (log_of seat) → worth (log_of seat) place ≡ reading.word
  pub known : reading.clean.upto ≡ reading.mark + 1 → reading.mark ≤ length (log_of seat) → KnowsClean touches (log_of seat) (view_of seat) place reading.mark

-- the seat read, and did nothing else
pub record HasOnlyRead {S E : Type 0} {G : Ghosts S E} (old new : Seat S E G) : Type 0 where
  pub keeps : Keeps old new
  pub idle : HasDoneNothing old new
  pub log : log_of new ≡ log_of old
