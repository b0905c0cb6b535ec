-- Where each event is allowed, by what the acting view knows.
use Rattle.std.specs.Prelude.{◌≡◌, ◌≢◌, ◌<◌, ◌≤◌, ◌-◌, ◌^◌, ◌⊎◌, ℕ, List, [], Some, None, false, length, take, Contains}
use Rattle.mark_core.specs.declared.words.Clean.{Clean}
use Rattle.mark_core.specs.declared.words.Finished.{Finished}
use Rattle.mark_core.specs.declared.words.Held.{Held}
use Rattle.mark_core.specs.declared.events.Event.{Event}
use Rattle.mark_core.specs.declared.events.Event.TheVariants.{See, Mark, Commit, Split, Join, ReadClean, ReadValue, ReadMark, Claim, Put, Finish}
use Rattle.mark_core.specs.Marks.{IsLastMark}
use Rattle.mark_core.specs.declared.actors.Edits.{Edits}
use Rattle.mark_core.specs.declared.actors.View.{View}
use Rattle.mark_core.specs.States.{State, view_at}

-- the view wasn't joined into another
abbrev pub IsLive : {E : Type 0} → View (List E) → Type 0
IsLive view = view.spent ≡ false

-- the entry may mark the place: nothing is pending or this entry is, and it touches the place
pub record MayMark {E : Type 0} (touches : List E → E → ℕ → Type 0) (edits : Edits E) (view : View (List E)) (entry : E) (place : ℕ) : Type 0 where
  pub idle : (edits.pending ≡ None) ⊎ (edits.pending ≡ Some entry)
  pub touched : touches view.log entry place

-- the entry may be committed: it is pending, and each place that it touches is marked for it
pub record MayCommit {E : Type 0} (touches : List E → E → ℕ → Type 0) (places : ℕ) (edits : Edits E) (view : View (List E)) (entry : E) : Type 0 where
  pub pending : edits.pending ≡ Some entry
  pub marked : (place : ℕ) → place < places → touches view.log entry place → Contains edits.marked place

-- the other view may be joined into this one
pub record MayJoin {E : Type 0} (view other : View (List E)) : Type 0 where
  pub live : IsLive view
  pub other_live : IsLive other
  pub empty_handed : other.holds ≡ []

-- the read is one of this place with the clean word and a mark that is no less than what the word was computed up to
pub record IsGround (read : Finished) (place : ℕ) (clean : Clean) : Type 0 where
  pub same_place : read.place ≡ place
  pub same_clean : read.clean ≡ clean
  pub stale : clean.upto ≤ read.mark

-- the place may be claimed from this clean word: it is free, and the view has read the place with it as stale
pub record MayClaim {E : Type 0} (view : View (List E)) (place : ℕ) (seen : Clean) : Type 0 where
  pub free : seen.held ≡ false
  pub read : Finished
  pub among : Contains view.reads read
  pub ground : IsGround read place seen

-- the word is the worth of the place after some of the first entries that the view knows
pub record IsWorthKnown {E : Type 0} (worth : List E → ℕ → ℕ) (log : List E) (place word : ℕ) : Type 0 where
  pub count : ℕ
  pub within : count ≤ length log
  pub worth_is : worth (take count log) place ≡ word

-- the word may be put: the view holds the place, and the word is a worth that it knows
pub record MayPut {E : Type 0} (worth : List E → ℕ → ℕ) (view : View (List E)) (place word : ℕ) : Type 0 where
  pub hold : Held
  pub among : Contains view.holds hold
  pub same_place : hold.place ≡ place
  pub known : IsWorthKnown worth view.log place word

-- the word is the worth of the place after these entries, and the mark is its last one in them
abbrev pub Belong : {S E : Type 0} → (S → List E → ℕ → ℕ) → (S → List E → E → ℕ → Type 0) → S → List E → ℕ → ℕ → ℕ → Type 0
Belong worth touches subject entries place word mark =
    (worth subject entries place ≡ word) × IsLastMark (touches subject) entries place mark

-- a worth that the view put, with the last mark over the same entries
pub record IsWorthMarked {E : Type 0} (worth : List E → ℕ → ℕ) (touches : List E → E → ℕ → Type 0) (log : List E) (place word mark : ℕ) : Type 0 where
  pub known : IsWorthKnown worth log place word
  pub last : IsLastMark touches (take known.count log) place mark

-- the hold is one of the place, with a word that belongs with the mark to some of the entries
pub record IsMarkedHold {E : Type 0} (worth : List E → ℕ → ℕ) (touches : List E → E → ℕ → Type 0) (log : List E) (place mark : ℕ) (hold : Held) : Type 0 where
  pub same_place : hold.place ≡ place
  pub word : ℕ
  pub put : hold.word ≡ Some word
  pub computed : IsWorthMarked worth touches log place word mark

-- the place may be given back for the mark: the view holds it and put a word, and word and mark belong to the same entries
pub record MayFinish {E : Type 0} (worth : List E → ℕ → ℕ) (touches : List E → E → ℕ → Type 0) (view : View (List E)) (place mark : ℕ) : Type 0 where
  pub hold : Held
  pub among : Contains view.holds hold
  pub marked : IsMarkedHold worth touches view.log place mark hold

-- the place is there, and the view isn't spent
pub record MayStepAt {E : Type 0} (places : ℕ) (view : View (List E)) (place : ℕ) : Type 0 where
  pub there : place < places
  pub live : IsLive view

-- the event is allowed
abbrev pub Allowed : {E : Type 0} → (List E → ℕ → ℕ) → (List E → E → ℕ → Type 0) → State E → Event E → Type 0
Allowed worth touches s (See view) = IsLive (view_at s view)
Allowed worth touches s (Mark view entry place) =
    (view ≡ 0) × MayStepAt (length s.places) (view_at s view) place × MayMark touches s.edits (view_at s view) entry place
Allowed worth touches s (Commit view entry) =
    (view ≡ 0) × IsLive (view_at s view) × MayCommit touches (length s.places) s.edits (view_at s view) entry
Allowed worth touches s (Split view) = IsLive (view_at s view)
Allowed worth touches s (Join view other) =
    (view ≢ other) × (other ≢ 0) × MayJoin (view_at s view) (view_at s other)
Allowed worth touches s (ReadClean view place) = MayStepAt (length s.places) (view_at s view) place
Allowed worth touches s (ReadValue view place) = MayStepAt (length s.places) (view_at s view) place
Allowed worth touches s (ReadMark view place) = MayStepAt (length s.places) (view_at s view) place
Allowed worth touches s (Claim view place seen) =
    MayStepAt (length s.places) (view_at s view) place × MayClaim (view_at s view) place seen
Allowed worth touches s (Put view place word) =
    MayStepAt (length s.places) (view_at s view) place × MayPut worth (view_at s view) place word
Allowed worth touches s (Finish view place mark) =
    MayStepAt (length s.places) (view_at s view) place × MayFinish worth touches (view_at s view) place mark

-- there is room for one more view where the event makes one
abbrev pub HasRoom : {E : Type 0} → State E → Event E → Type 0
HasRoom s (Split view) = length s.views < 2 ^ 32 - 1
HasRoom s event = Unit {0}
