-- What a closed table shows.
use Rattle.std.specs.Prelude.{◌≡◌, ◌<◌, ℕ, List, ◌∷◌, Some, map, length, Contains}
use Rattle.mark_core.specs.declared.words.Finished.{Finished}
use Rattle.mark_core.specs.Places.{place_at}
use Rattle.mark_core.specs.Marks.{IsPrefix}
use Rattle.mark_core.specs.States.{State, view_at, opening_state}
use Rattle.mark_core.specs.Legal.{IsLegalRead}
use Rattle.mark_core.specs.Honest.{IsHonest}
use Rattle.mark_core.specs.Runs.{IsCodeless}
use Rattle.mark_core.specs.declared.subjects.Subject.{Ghosts}
use Rattle.mark_words.specs.declared.marks.Marks.{Marks}
use Rattle.mark_words.specs.declared.seats.Seat.{Seat}
use Rattle.mark_words.specs.declared.closing.Words.{Words}
use Rattle.mark_words.specs.declared.tables.Made.{Made}
use Rattle.mark_words.specs.Rules.{HaveNoRepeats}
use Rattle.mark_words.specs.Steps.{steps_of}
use Rattle.mark_words.specs.Runs.{RunsWith}
use Rattle.mark_words.specs.Tokens.{subject_of, topic_of, places_of, view_of, own_steps, log_of, edits_of, closed_places, closed_place, closed_log}

-- Events of the core have led from the opening state to one with these words, with the editor's edits, and with the
-- views of all seats that were handed in, no two of which are one view of it. So it is honest. Each seat's single steps
-- are those of its view among the events, each at its number and with its word. The state may have further views, of seats that were
-- dropped.
pub record HasClosed {S E : Type 0} {G : Ghosts S E} (places : S → ℕ) (worth : S → List E → ℕ → ℕ) (touches : S → List E
    → E → ℕ → Type 0) (marks : Marks S E) (editor : Seat S E G) (others : List (Seat S E G))
    (words : Words S E G) : Type 0 where
  pub same_count : closed_places words ≡ places_of marks
  pub same_log : closed_log words ≡ log_of editor
  pub core : State E
  pub events : List (Made E)
  pub run : RunsWith (worth (subject_of marks)) (touches (subject_of marks)) (opening_state (topic_of marks).opening.value) events core
  pub honest : IsHonest (places (subject_of marks)) (worth (subject_of marks)) (touches (subject_of marks)) (IsCodeless (topic_of marks).opening.value) core
  pub sized : length core.places ≡ closed_places words
  pub same_places : (place : ℕ) → place < closed_places words → closed_place words place ≡ place_at core.places place
  pub edits : core.edits ≡ edits_of editor
  pub log : core.edits.log ≡ closed_log words
  pub editor_view : view_at core 0 ≡ view_of editor
  pub editor_steps : steps_of events 0 ≡ own_steps editor
  -- which views of the state the other seats are, in order
  pub numbers : List ℕ
  pub other_views : map (view_at core) numbers ≡ map view_of others
  pub other_steps : map (steps_of events) numbers ≡ map own_steps others
  pub apart : HaveNoRepeats (0 ∷ numbers)

-- the log of each seat that was handed in is a prefix of the editor's
abbrev pub ArePrefixes : {S E : Type 0} {G : Ghosts S E} → List (Seat S E G) → Words S E G → Type 0
ArePrefixes {S} {E} {G} others words = (other : Seat S E G) → Contains others other → IsPrefix (log_of other) (closed_log words)

-- each read with a word of the seats is legal over the editor's edits: its log, and the pending entry if there is one
abbrev pub AreLegal : {S E : Type 0} {G : Ghosts S E} → (S → List E → ℕ → ℕ) → (S → List E → E → ℕ → Type 0) → Marks S E
    → Seat S E G → List (Seat S E G) → Type 0
AreLegal {S} {E} {G} worth touches marks editor seats =
    (seat : Seat S E G) (read : Finished) (word : ℕ) → Contains seats seat → Contains (view_of seat).reads read → read.word ≡ Some word
    → IsLegalRead (worth (subject_of marks)) (touches (subject_of marks)) (IsCodeless (topic_of marks).opening.value) (edits_of editor) read word
