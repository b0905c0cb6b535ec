-- The laws of the protocol. Each but the last but one speaks of one event, or of no event.
use Rattle.std.specs.Prelude.{◌≡◌, ◌≢◌, ◌<◌, ◌≤◌, ◌⊎◌, ◌↔◌, ℕ, List, [], ◌∷◌, Option, Some, true, length, take, slice_get, Contains}
use Rattle.mark_core.specs.declared.actors.Edits.{Edits}
use Rattle.mark_core.specs.declared.words.Half.{Half}
use Rattle.mark_core.specs.declared.words.Finished.{Finished}
use Rattle.mark_core.specs.declared.words.Held.{Held}
use Rattle.mark_core.specs.declared.answers.Seen.{Seen}
use Rattle.mark_core.specs.declared.answers.Seen.TheVariants.{Value, Stale, Newer}
use Rattle.mark_core.specs.declared.events.Event.{Event}
use Rattle.mark_core.specs.declared.events.Event.TheVariants.{See, Split, Join, ReadClean, ReadValue, ReadMark}
use Rattle.mark_core.specs.declared.events.Outcome.{Outcome}
use Rattle.mark_core.specs.declared.events.Outcome.TheVariants.{Count, Seat, Word}
use Rattle.mark_core.specs.declared.events.Outcome.TheVariants.{Clean as AnswersClean, Mark as AnswersMark}
use Rattle.mark_core.specs.Places.{place_at}
use Rattle.mark_core.specs.Marks.{IsTouched, IsLastMark}
use Rattle.mark_core.specs.States.{State, view_at, entries_of, opening_state}
use Rattle.mark_core.specs.Permissions.{IsLive}
use Rattle.mark_core.specs.Steps.{Happens}
use Rattle.mark_core.specs.Answers.{Shows}
use Rattle.mark_core.specs.Legal.{MeetsFloor, IsLegalCell, IsLegalRead}
use Rattle.mark_core.specs.Honest.{IsHonest}
use Rattle.mark_core.specs.Runs.{IsCodeless, Runs}
use Rattle.mark_core.specs.Growth.{counts_of, finishes_of, losses_of, Grows, IsCopy, IsUnion, BeginsRead, EndsRead}

module _ {S E : Type 0} (places : S → ℕ) (worth : S → List E → ℕ → ℕ) (touches : S → List E → E → ℕ → Type 0) (subject : S) where
  -- the state is honest, with the codes that this opening gave
  abbrev pub IsHonestFrom : List (Option ℕ) → State E → Type 0
  IsHonestFrom opening s = IsHonest (places subject) (worth subject) (touches subject) (IsCodeless opening) s

  -- the event happens: it is allowed, and answer and state are its own
  abbrev pub HappensIn : State E → Event E → Outcome → State E → Type 0
  HappensIn s event outcome after = Happens (worth subject) (touches subject) s event outcome after

  -- each opening state is honest: the opening has one item per place, and a code that is given is the worth over
  -- the empty log
  abbrev pub OpeningsAreHonest : Type 0
  OpeningsAreHonest =
      (opening : List (Option ℕ))
      → length opening ≡ places subject
      → ((place code : ℕ) → slice_get opening place ≡ Some (Some code) → code ≡ worth subject [] place)
      → IsHonestFrom opening (opening_state opening)

  -- each event that happens leaves an honest state honest
  abbrev pub EventsKeepHonest : Type 0
  EventsKeepHonest =
      (opening : List (Option ℕ)) (s : State E) (event : Event E) (outcome : Outcome) (after : State E)
      → HappensIn s event outcome after
      → IsHonestFrom opening s
      → IsHonestFrom opening after

  -- what is said of each read of a view in an honest state that shows something
  abbrev pub EachRead : (List (Option ℕ) → State E → Finished → Seen → Type 0) → Type 0
  EachRead Holds =
      (opening : List (Option ℕ)) (s : State E) (view : ℕ) (read : Finished) (word : ℕ) (shown : Seen)
      → IsHonestFrom opening s
      → Contains (view_at s view).reads read
      → read.word ≡ Some word
      → Shows read.number read.clean word read.mark shown
      → Holds opening s read shown

  -- a value is shown with a number within the log, and is the worth after that many entries
  abbrev pub ValuesAreWorths : Type 0
  ValuesAreWorths = EachRead (λ opening s read shown. ((value : ℕ) → shown ≡ Value value
      → (read.number ≤ length s.edits.log) × (value ≡ worth subject (take read.number s.edits.log) read.place)
      × IsLastMark (touches subject) (take read.number s.edits.log) read.place read.mark))

  -- a newer mark is past the number, and its entry of the log touches the place
  abbrev pub NewerMarksTouch : Type 0
  NewerMarksTouch = EachRead (λ opening s read shown. ((mark : ℕ) → shown ≡ Newer mark
      → (read.number < mark) × IsTouched (touches subject) s.edits.log read.place mark))

  -- a stale mark is 0 where the opening gave no code, or its entry touches the place, and no entry after it
  -- that the number covers does
  abbrev pub StaleMarksTouch : Type 0
  StaleMarksTouch = EachRead (λ opening s read shown. ((mark : ℕ) → shown ≡ Stale mark
      → (mark ≡ 0 → IsCodeless opening read.place)
      × (0 < mark → IsTouched (touches subject) (entries_of s.edits) read.place mark)
      × ((later : ℕ) → mark < later → later ≤ read.number → IsTouched (touches subject) s.edits.log read.place later → ⊥)))

  -- a cell of a look that shows what a read shows is legal at the read's number
  abbrev pub CellsAreLegal : Type 0
  CellsAreLegal = EachRead (λ opening s read shown.
      IsLegalCell (worth subject) (touches subject) (IsCodeless opening) s.edits read.number read.place shown)

  -- each read of a view in an honest state met its floor, and is legal where it has a word
  abbrev pub ReadsAreLegal : Type 0
  ReadsAreLegal =
      (opening : List (Option ℕ)) (s : State E) (view : ℕ) (read : Finished)
      → IsHonestFrom opening s
      → Contains (view_at s view).reads read
      → MeetsFloor read.mark read.floor read.clean.upto
      × ((word : ℕ) → read.word ≡ Some word → IsLegalRead (worth subject) (touches subject) (IsCodeless opening) s.edits read word)

  -- a load of a clean word begins a read
  abbrev pub ReadsBegin : Type 0
  ReadsBegin =
      (s : State E) (view place : ℕ) (outcome : Outcome) (after : State E)
      → HappensIn s (ReadClean view place) outcome after
      → (half : Half) × ((view_at after view).half ≡ Some half)
      × (half.clean ≡ (place_at s.places place).clean) × (outcome ≡ AnswersClean half.clean)
      × BeginsRead (view_at s view) place half

  -- a load of a value goes on with a read of the place
  abbrev pub ReadsGoOn : Type 0
  ReadsGoOn =
      (s : State E) (view place : ℕ) (outcome : Outcome) (after : State E) (half : Half)
      → HappensIn s (ReadValue view place) outcome after
      → (view_at s view).half ≡ Some half → half.place ≡ place
      → (word : ℕ) × (outcome ≡ Word word) × (word ≡ (place_at s.places place).value)
      × ((view_at after view).half ≡ Some (record half { word = Some word }))

  -- a load of a mark ends a read of the place
  abbrev pub ReadsEnd : Type 0
  ReadsEnd =
      (opening : List (Option ℕ)) (s : State E) (view place : ℕ) (outcome : Outcome) (after : State E) (half : Half)
      → IsHonestFrom opening s
      → HappensIn s (ReadMark view place) outcome after
      → (view_at s view).half ≡ Some half → half.place ≡ place
      → (mark : ℕ) × (outcome ≡ AnswersMark mark) × (mark ≡ (place_at s.places place).mark)
      × ((read : Finished) × EndsRead (view_at s view) half mark read (view_at after view))

  -- a see answers the length of the log, which the view has seen from then on
  abbrev pub SeesAnswerTheCount : Type 0
  SeesAnswerTheCount =
      (s : State E) (view : ℕ) (outcome : Outcome) (after : State E)
      → HappensIn s (See view) outcome after
      → (outcome ≡ Count (length s.edits.log)) × ((view_at after view).seen ≡ length s.edits.log)

  -- a split hands on what the view knows to the view that it answers, and leaves the others
  abbrev pub SplitsHandOn : Type 0
  SplitsHandOn =
      (s : State E) (view : ℕ) (outcome : Outcome) (after : State E)
      → HappensIn s (Split view) outcome after
      → (new : ℕ) × (outcome ≡ Seat new) × (new ≡ length s.views)
      × IsCopy (view_at s view) (view_at after new)
      × ((other : ℕ) → other ≢ new → view_at after other ≡ view_at s other)

  -- a join hands on what the other view knows, spends it, and leaves the rest
  abbrev pub JoinsHandOn : Type 0
  JoinsHandOn =
      (opening : List (Option ℕ)) (s : State E) (view other : ℕ) (outcome : Outcome) (after : State E)
      → IsHonestFrom opening s
      → HappensIn s (Join view other) outcome after
      → IsUnion (view_at s view) (view_at s other) (view_at after view)
      × ((view_at after other).spent ≡ true)
      × ((third : ℕ) → third ≢ view → third ≢ other → view_at after third ≡ view_at s third)

  -- the lists of a view that isn't spent grow by what the event adds, and by nothing else
  abbrev pub ViewsGrow : Type 0
  ViewsGrow =
      (opening : List (Option ℕ)) (s : State E) (event : Event E) (outcome : Outcome) (after : State E) (view : ℕ)
      → IsHonestFrom opening s
      → HappensIn s event outcome after
      → IsLive (view_at after view)
      → Grows (counts_of s event view) (finishes_of s event view) (losses_of s event outcome view)
      (view_at s view) (view_at after view)

  -- a clean word is held exactly where some view holds the place
  abbrev pub HeldWordsHaveHolders : Type 0
  HeldWordsHaveHolders =
      (opening : List (Option ℕ)) (s : State E) (place : ℕ)
      → IsHonestFrom opening s
      → ((place_at s.places place).clean.held ≡ true)
      ↔ ((view : ℕ) × (hold : Held) × Contains (view_at s view).holds hold × (hold.place ≡ place))

  -- no two views hold one place
  abbrev pub PlacesHaveOneHolder : Type 0
  PlacesHaveOneHolder =
      (opening : List (Option ℕ)) (s : State E) (view other : ℕ) (hold hold' : Held)
      → IsHonestFrom opening s
      → Contains (view_at s view).holds hold
      → Contains (view_at s other).holds hold'
      → hold.place ≡ hold'.place
      → view ≡ other

  -- a held place is stale: its value was computed for no mark as late as its own
  abbrev pub HeldPlacesAreStale : Type 0
  HeldPlacesAreStale =
      (opening : List (Option ℕ)) (s : State E) (place : ℕ)
      → IsHonestFrom opening s
      → place < places subject
      → (place_at s.places place).clean.held ≡ true
      → (place_at s.places place).clean.upto ≤ (place_at s.places place).mark

  -- a word that a view put at a place that it holds stands there, and is the worth of the place after some of the
  -- first entries that the view knows
  abbrev pub PutWordsAreKnown : Type 0
  PutWordsAreKnown =
      (opening : List (Option ℕ)) (s : State E) (view : ℕ) (hold : Held) (word : ℕ)
      → IsHonestFrom opening s
      → Contains (view_at s view).holds hold
      → hold.word ≡ Some word
      → ((place_at s.places hold.place).value ≡ word)
      × ((count : ℕ) × (count ≤ length (view_at s view).log) × (worth subject (take count (view_at s view).log) hold.place ≡ word))

  -- no events happen exactly from a state to itself, and events happen in order exactly where the first one
  -- does and the others do from there
  abbrev pub EventsHappenInOrder : Type 0
  EventsHappenInOrder =
      ((s after : State E) → Runs (worth subject) (touches subject) s [] after ↔ (after ≡ s))
      × ((s : State E) (event : Event E) (events : List (Event E)) (after : State E)
      → Runs (worth subject) (touches subject) s (event ∷ events) after
      ↔ ((next : State E) × (outcome : Outcome) × HappensIn s event outcome next × Runs (worth subject) (touches subject) next events after))

  -- whatever events happen from an opening state, the state is honest
  abbrev pub RunsStayHonest : Type 0
  RunsStayHonest =
      (opening : List (Option ℕ)) (events : List (Event E)) (s : State E)
      → length opening ≡ places subject
      → ((place code : ℕ) → slice_get opening place ≡ Some (Some code) → code ≡ worth subject [] place)
      → Runs (worth subject) (touches subject) (opening_state opening) events s
      → IsHonestFrom opening s

module _ {S E : Type 0} (worth : S → List E → ℕ → ℕ) (touches : S → List E → E → ℕ → Type 0) (subject : S) where
  -- the read is legal where it has a word
  abbrev pub IsLegal : List (Option ℕ) → Edits E → Finished → Type 0
  IsLegal opening edits read = (word : ℕ) → read.word ≡ Some word → IsLegalRead (worth subject) (touches subject) (IsCodeless opening) edits read word

  -- Two legal reads of a place, their numbers in order, the first with a word that showed as a value, and the
  -- second with a floor above the mark of the first: then the second shows a mark only of an edit above the
  -- first one's number.
  abbrev pub StaleForLaterEdits : Type 0
  StaleForLaterEdits =
      (opening : List (Option ℕ)) (edits : Edits E) (first second : Finished) (word value word' edit : ℕ)
      → second.place ≡ first.place
      → first.number ≤ second.number
      → first.mark < second.floor
      → IsLegal opening edits first
      → IsLegal opening edits second
      → first.word ≡ Some word
      → Shows first.number first.clean word first.mark (Value value)
      → second.word ≡ Some word'
      → Shows second.number second.clean word' second.mark (Stale edit)
      ⊎ Shows second.number second.clean word' second.mark (Newer edit)
      → first.number < edit

  -- a place has one last mark in a list of entries
  abbrev pub LastMarksAreUnique : Type 0
  LastMarksAreUnique =
      (entries : List E) (place mark other : ℕ)
      → IsLastMark (touches subject) entries place mark
      → IsLastMark (touches subject) entries place other
      → mark ≡ other
