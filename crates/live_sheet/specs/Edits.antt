-- What an edit does, to the seats and for its client.
use Rattle.std.specs.Prelude.{◌≡◌, ◌≤◌, ◌<◌, ℕ, List, [], ◌∷◌, ◌++◌, Some, None, map, length, Contains}
use Rattle.sheet_refs.specs.Cells.{Position}
use Rattle.sheet_refs.specs.Sizes.{place_of}
use Rattle.sheet_refs.specs.declared.sizes.Sizes.{Sizes}
use Rattle.mark_core.specs.declared.subjects.Subject.{Ghosts}
use Rattle.mark_core.specs.Marks.{IsPrefix}
use Rattle.mark_words.specs.declared.seats.Seat.{Seat}
use Rattle.mark_words.specs.declared.tables.Doing.{Doing}
use Rattle.mark_words.specs.Doing.{with_commit}
use Rattle.mark_words.specs.Editing.{IsIdleFor}
use Rattle.mark_words.specs.Tokens.{view_of, log_of, seen_of, edits_of, is_editor, own_steps}
use Rattle.live_sheet.specs.Steps.{Act, StepsAre, saw, marked, committed}

-- a mark of each of some cells for the entry
abbrev pub marks_of : {E : Type 0} → Sizes → E → ℕ → List Position → List (Act E)
marks_of sizes entry number cells = map (λ cell. marked entry number (place_of sizes cell)) cells

-- the places of these cells are marked for the entry, which is pending if there is one, and all else is as it was
pub record HasMarked {S E : Type 0} (sizes : Sizes) (entry : E) (cells : List Position) (old new : Doing S E) : Type 0 where
  pub subject : new.subject ≡ old.subject
  pub editor : new.editor ≡ old.editor
  pub view : new.view ≡ old.view
  pub log : new.edits.log ≡ old.edits.log
  pub idle : IsIdleFor new entry
  pub pending : 0 < length cells → new.edits.pending ≡ Some entry
  pub marked_are : new.edits.marked ≡ old.edits.marked ++ map (place_of sizes) cells

-- the entry is pending, and each place that it touches is marked
pub record IsReady {S E : Type 0} (places : ℕ) (touches : List E → E → ℕ → Type 0) (entry : E) (doing : Doing S E) : Type 0 where
  pub pending : doing.edits.pending ≡ Some entry
  pub all : (place : ℕ) → place < places → touches doing.view.log entry place → Contains doing.edits.marked place

-- the pending entry is in the log
abbrev pub CommitsPending : {S E : Type 0} → Doing S E → Doing S E → Type 0
CommitsPending {S} {E} old new = (entry : E) → old.edits.pending ≡ Some entry → new ≡ with_commit old entry

-- The editor's seat has met another one. It has lost nothing of what it knew, and what the other one knows and has seen is
-- no more than what it knew already.
pub record HasHeard {S E : Type 0} {G : Ghosts S E} (old other new : Seat S E G) : Type 0 where
  pub editor : is_editor new ≡ is_editor old
  pub log : log_of new ≡ log_of old
  pub seen : seen_of new ≡ seen_of old
  pub edits : edits_of new ≡ edits_of old
  pub holds : (view_of new).holds ≡ (view_of old).holds
  pub other_log : IsPrefix (log_of other) (log_of old)
  pub other_seen : seen_of other ≤ seen_of old
  pub steps : StepsAre (own_steps old) (saw (seen_of old) ∷ []) (own_steps new)

-- The seat has met the editor's, and knows its log from then on. It keeps its reads and its work.
pub record HasLearned {S E : Type 0} {G : Ghosts S E} (old editor new : Seat S E G) : Type 0 where
  pub log : log_of new ≡ log_of editor
  pub seen : seen_of old ≤ seen_of new
  pub known_seen : length (log_of new) ≤ seen_of new
  pub sees : (view_of new).sees ≡ (view_of old).sees ++ seen_of new ∷ []
  pub known : IsPrefix (view_of old).known (view_of new).known
  pub half : (view_of new).half ≡ (view_of old).half
  pub reads : (view_of new).reads ≡ (view_of old).reads
  pub holds : (view_of new).holds ≡ (view_of old).holds
  pub done : (view_of new).done ≡ (view_of old).done
  pub lost : (view_of new).lost ≡ (view_of old).lost
  pub steps : StepsAre (own_steps old) (saw (seen_of new) ∷ []) (own_steps new)

-- the editor's seat has marked each of the cells for the entry, row by row, and then committed it
pub record HasEntered {S E : Type 0} {G : Ghosts S E} (sizes : Sizes) (entry : E) (number : ℕ) (cells : List Position) (old new : Seat S E G) : Type 0 where
  pub editor : is_editor new ≡ is_editor old
  pub log : log_of new ≡ log_of old ++ entry ∷ []
  pub seen : seen_of new ≡ length (log_of new)
  pub idle : (edits_of new).pending ≡ None
  pub holds : (view_of new).holds ≡ (view_of old).holds
  pub steps : StepsAre (own_steps old) (marks_of sizes entry number cells ++ committed entry number ∷ []) (own_steps new)
