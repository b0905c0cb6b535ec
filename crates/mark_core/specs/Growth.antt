-- What each event adds to the lists of a view, and what it hands on.
use Rattle.std.specs.Prelude.{◌≡◌, ◌<◌, ◌≤◌, ◌+◌, ◌⊎◌, ◌==◌, if◌then◌else◌, ℕ, List, [], ◌∷◌, ◌++◌, Some, None, false, length, Contains}
use Rattle.mark_core.specs.declared.actors.View.{View}
use Rattle.mark_core.specs.declared.words.Known.{Known}
use Rattle.mark_core.specs.declared.words.Half.{Half}
use Rattle.mark_core.specs.declared.words.Finished.{Finished}
use Rattle.mark_core.specs.declared.words.Lost.{Lost}
use Rattle.mark_core.specs.declared.events.Event.{Event}
use Rattle.mark_core.specs.declared.events.Event.TheVariants.{See, Join, Claim, Finish}
use Rattle.mark_core.specs.declared.events.Outcome.{Outcome}
use Rattle.mark_core.specs.declared.events.Outcome.TheVariants.{Claimed}
use Rattle.mark_core.specs.Places.{place_at}
use Rattle.mark_core.specs.Marks.{IsPrefix}
use Rattle.mark_core.specs.States.{State, view_at}
use Rattle.mark_core.specs.Permissions.{IsLive}

-- the counts that the event adds to those that the view loaded
abbrev pub counts_of : {E : Type 0} → State E → Event E → ℕ → List ℕ
counts_of s (See actor) view = if view == actor then length s.edits.log ∷ [] else []
counts_of s (Join actor other) view = if view == actor then (view_at s other).sees else []
counts_of s event view = []

-- the pairs that the event adds to what the view finished
abbrev pub finishes_of : {E : Type 0} → State E → Event E → ℕ → List Known
finishes_of s (Finish actor place mark) view = if view == actor then record { place = place; mark = mark } ∷ [] else []
finishes_of s (Join actor other) view = if view == actor then (view_at s other).done else []
finishes_of s event view = []

-- what the event adds to the clean words that refused claims of the view found
abbrev pub losses_of : {E : Type 0} → State E → Event E → Outcome → ℕ → List Lost
losses_of s (Claim actor place seen) (Claimed false) view =
    if view == actor then record { place = place; found = (place_at s.places place).clean } ∷ [] else []
losses_of s (Join actor other) outcome view = if view == actor then (view_at s other).lost else []
losses_of s event outcome view = []

-- The view has grown by this and by nothing else, and has lost nothing.
pub record Grows {E : Type 0} (counts : List ℕ) (finishes : List Known) (losses : List Lost) (before after : View (List E)) : Type 0 where
  pub sees : after.sees ≡ before.sees ++ counts
  pub done : after.done ≡ before.done ++ finishes
  pub lost : after.lost ≡ before.lost ++ losses
  pub seen : before.seen ≤ after.seen
  pub log : IsPrefix before.log after.log
  pub known : IsPrefix before.known after.known
  pub reads : IsPrefix before.reads after.reads

-- the new view knows what the other one does, and has done nothing
pub record IsCopy {E : Type 0} (view new : View (List E)) : Type 0 where
  pub live : IsLive new
  pub log : new.log ≡ view.log
  pub seen : new.seen ≡ view.seen
  pub known : new.known ≡ view.known
  pub sees : new.sees ≡ []
  pub half : new.half ≡ None
  pub reads : new.reads ≡ []
  pub holds : new.holds ≡ []
  pub done : new.done ≡ []
  pub lost : new.lost ≡ []

-- the view after a join has all that both had, and its own begun read and held places
pub record IsUnion {E : Type 0} (view other after : View (List E)) : Type 0 where
  pub own_log : IsPrefix view.log after.log
  pub other_log : IsPrefix other.log after.log
  pub one_log : (after.log ≡ view.log) ⊎ (after.log ≡ other.log)
  pub own_seen : view.seen ≤ after.seen
  pub other_seen : other.seen ≤ after.seen
  pub one_seen : (after.seen ≡ view.seen) ⊎ (after.seen ≡ other.seen)
  pub known : after.known ≡ view.known ++ other.known
  pub reads : after.reads ≡ view.reads ++ other.reads
  pub half : after.half ≡ view.half
  pub holds : after.holds ≡ view.holds

-- A read of the place that begins with this clean word: its floor is past each mark for which the view knows
-- the place, and is 0 or one more than such a mark.
pub record BeginsRead {E : Type 0} (view : View (List E)) (place : ℕ) (half : Half) : Type 0 where
  pub same_place : half.place ≡ place
  pub no_word : half.word ≡ None
  pub above : (mark : ℕ) → Contains view.known (record { place = place; mark = mark }) → mark < half.floor
  pub known : (half.floor ≡ 0) ⊎ ((mark : ℕ) × (half.floor ≡ mark + 1) × Contains view.known (record { place = place; mark = mark }))

-- The begun read ends with the mark that was loaded: it has the number that the view had seen, which is at least the length of the view's
-- log; and where it read a value that was computed for its mark, the view knows the place so.
pub record EndsRead {E : Type 0} (before : View (List E)) (half : Half) (loaded : ℕ) (read : Finished) (after : View (List E)) : Type 0 where
  pub number : read.number ≡ before.seen
  pub past_log : length before.log ≤ read.number
  pub place : read.place ≡ half.place
  pub clean : read.clean ≡ half.clean
  pub word : read.word ≡ half.word
  pub mark : read.mark ≡ loaded
  pub floor : read.floor ≡ half.floor
  pub reads : after.reads ≡ before.reads ++ read ∷ []
  pub ended : after.half ≡ None
  pub known :
      (word : ℕ) → half.word ≡ Some word → half.clean.upto ≡ loaded + 1
      → Contains after.known (record { place = half.place; mark = loaded })
