-- What holds in every state that allowed events can reach, part by part.
use Rattle.std.specs.Prelude.{◌≡◌, ◌<◌, ◌≤◌, ◌+◌, ◌⊎◌, ℕ, List, Some, true, false, length, Contains, All, Any}
use Rattle.mark_core.specs.declared.words.Clean.{Clean}
use Rattle.mark_core.specs.declared.words.Known.{Known}
use Rattle.mark_core.specs.declared.words.Half.{Half}
use Rattle.mark_core.specs.declared.words.Finished.{Finished}
use Rattle.mark_core.specs.declared.words.Held.{Held}
use Rattle.mark_core.specs.Places.{Words, words_of}
use Rattle.mark_core.specs.Marks.{IsPrefix, IsLastMark}
use Rattle.mark_core.specs.declared.actors.Edits.{Edits}
use Rattle.mark_core.specs.declared.actors.View.{View}
use Rattle.mark_core.specs.States.{State, view_at}
use Rattle.mark_core.specs.Permissions.{IsLive, IsWorthKnown}
use Rattle.mark_core.specs.Legal.{MeetsFloor, IsLegalRead}

module _ {E : Type 0} (touches : List E → E → ℕ → Type 0) where
  -- the place is marked for the pending entry, which touches it
  pub record IsPendingMark (edits : Edits E) (place mark : ℕ) : Type 0 where
    pub marked : Contains edits.marked place
    pub entry : E
    pub pending : edits.pending ≡ Some entry
    pub touched : touches edits.log entry place
    pub number : mark ≡ length edits.log + 1

  -- the place isn't marked for a pending entry, and its mark is its last mark in the log
  pub record IsSettledMark (edits : Edits E) (place mark : ℕ) : Type 0 where
    pub unmarked : Contains edits.marked place → ⊥
    pub last : IsLastMark touches edits.log place mark

  -- the mark of a place is that of the pending entry where the place is marked for it, and else its last mark
  abbrev pub IsRightMark : Edits E → ℕ → ℕ → Type 0
  IsRightMark edits place mark = IsPendingMark edits place mark ⊎ IsSettledMark edits place mark

-- What a clean word says of a place: it was computed for no mark that is still to come, and never only where
-- the opening gave no code.
pub record IsRightUpto (codeless : ℕ → Type 0) (count place mark : ℕ) (clean : Clean) : Type 0 where
  pub upto_mark : clean.upto ≤ mark + 1
  pub upto_log : clean.upto ≤ count + 1
  pub never : clean.upto ≡ 0 → codeless place

-- The clean word and the value of a place: the value is the worth where it was computed for the present mark,
-- and a held place is stale.
pub record IsRightValue {E : Type 0} (worth : List E → ℕ → ℕ) (codeless : ℕ → Type 0) (log : List E) (place mark : ℕ) (clean : Clean) (value : ℕ) : Type 0 where
  pub upto : IsRightUpto codeless (length log) place mark clean
  pub current : clean.upto ≡ mark + 1 → value ≡ worth log place
  pub held : clean.held ≡ true → clean.upto ≤ mark

-- A view's log is a prefix of the log, and no longer than what the view has seen.
pub record IsRightLog {E : Type 0} (log : List E) (view : View (List E)) : Type 0 where
  pub known_prefix : IsPrefix view.log log
  pub below_seen : length view.log ≤ view.seen
  pub seen_below : view.seen ≤ length log

-- the place is free, and its value was computed for the mark
pub record IsComputed (words : Words) (place mark : ℕ) : Type 0 where
  pub marked : words.mark place ≡ mark
  pub upto : (words.clean place).upto ≡ mark + 1
  pub free : (words.clean place).held ≡ false

-- A known pair: the mark is one of the log's, and the place was marked again since or is as it was known.
pub record IsRightKnown (count : ℕ) (words : Words) (pair : Known) : Type 0 where
  pub within : pair.mark ≤ count
  pub since : (pair.mark < words.mark pair.place) ⊎ IsComputed words pair.place pair.mark

-- the clean word of a begun read is still there and free, and so is its word where one was read
pub record IsStillThere (words : Words) (half : Half) : Type 0 where
  pub clean : words.clean half.place ≡ half.clean
  pub free : half.clean.held ≡ false
  pub word : (word : ℕ) → half.word ≡ Some word → words.value half.place ≡ word

-- A begun read: what it read stays believable whatever the other views do.
pub record IsRightHalf (codeless : ℕ → Type 0) (count : ℕ) (words : Words) (half : Half) : Type 0 where
  pub upto : IsRightUpto codeless count half.place (words.mark half.place) half.clean
  pub stale : (half.clean.upto ≤ words.mark half.place) ⊎ IsStillThere words half
  pub floor : MeetsFloor (words.mark half.place) half.floor half.clean.upto

-- A finished read: its mark hasn't fallen since, it met its floor, and with a word it is legal.
pub record IsRightRead {E : Type 0} (worth : List E → ℕ → ℕ) (touches : List E → E → ℕ → Type 0) (codeless : ℕ
    → Type 0) (edits : Edits E) (words : Words) (read : Finished) : Type 0 where
  pub mark_below : read.mark ≤ words.mark read.place
  pub floor : MeetsFloor read.mark read.floor read.clean.upto
  pub legal : (word : ℕ) → read.word ≡ Some word → IsLegalRead worth touches codeless edits read word

-- the view holds the place
abbrev pub HoldsPlace : {E : Type 0} → View (List E) → ℕ → Type 0
HoldsPlace view place = Any (λ hold. hold.place ≡ place) view.holds

-- A held place of a view: its clean word says so, and a word that was put is there and is a worth that the
-- view knows.
pub record IsRightHold {E : Type 0} (worth : List E → ℕ → ℕ) (words : Words) (log : List E) (hold : Held) : Type 0 where
  pub held : (words.clean hold.place).held ≡ true
  pub put : (word : ℕ) → hold.word ≡ Some word → words.value hold.place ≡ word
  pub worth_known : (word : ℕ) → hold.word ≡ Some word → IsWorthKnown worth log hold.place word

-- all that holds of one view
pub record IsRightView {E : Type 0} (worth : List E → ℕ → ℕ) (touches : List E → E → ℕ → Type 0) (codeless : ℕ
    → Type 0) (edits : Edits E) (words : Words) (view : View (List E)) : Type 0 where
  pub log : IsRightLog edits.log view
  pub known : All (IsRightKnown (length edits.log) words) view.known
  pub half : (half : Half) → view.half ≡ Some half → IsRightHalf codeless (length edits.log) words half
  pub reads : All (IsRightRead worth touches codeless edits words) view.reads
  pub holds : All (IsRightHold worth words view.log) view.holds

-- A place is held exactly where one view holds it, and no two views hold one place.
pub record HasOneHolder {E : Type 0} (s : State E) : Type 0 where
  pub held : (place : ℕ) → ((words_of s.places).clean place).held ≡ true → (view : ℕ) × HoldsPlace (view_at s view) place
  pub one : (place view other : ℕ) → HoldsPlace (view_at s view) place → HoldsPlace (view_at s other) place → view ≡ other

-- The state is honest. `places` is how many places the subject has.
pub record IsHonest {E : Type 0} (places : ℕ) (worth : List E → ℕ → ℕ) (touches : List E → E → ℕ → Type 0) (codeless : ℕ → Type 0) (s : State E) : Type 0 where
  pub count : length s.places ≡ places
  -- the editor's view isn't spent, and its log is the log of the state
  pub editor_live : IsLive (view_at s 0)
  pub editor_log : (view_at s 0).log ≡ s.edits.log
  pub marks : (place : ℕ) → place < places → IsRightMark touches s.edits place ((words_of s.places).mark place)
  pub values :
      (place : ℕ) → place < places
      → IsRightValue worth codeless s.edits.log place ((words_of s.places).mark place) ((words_of s.places).clean place) ((words_of s.places).value place)
  pub views : (view : ℕ) → IsRightView worth touches codeless s.edits (words_of s.places) (view_at s view)
  pub holders : HasOneHolder s
