-- What follows from the rule of the table, and from the one step more that a single step gives its seat.
use Rattle.std.specs.Prelude.{◌≡◌, ◌<◌, ◌+◌, ◌*◌, ℕ, List, [], ◌∷◌, ◌++◌, false, length, map, slice_index, slice_set}
use mathlib.Core.Option.{some}
use lib.ListN.{get_elem?}
use Rattle.atomic_table.specs.Table.{State as TableState}
use Rattle.mark_core.specs.declared.events.Event.{Event}
use Rattle.mark_core.specs.declared.events.Event.TheVariants.{See, Mark, Commit, Split, Join, ReadClean, ReadValue, ReadMark, Claim, Put, Finish}
use Rattle.mark_core.specs.declared.events.Outcome.{Outcome}
use Rattle.mark_core.specs.Places.{place_at}
use Rattle.mark_core.specs.States.{State, view_at, opening_state}
use Rattle.mark_core.specs.Steps.{Happens}
use Rattle.mark_core.specs.Honest.{IsHonest}
use Rattle.mark_core.specs.Runs.{IsCodeless, Runs}
use Rattle.mark_words.specs.declared.tables.History.{History}
use Rattle.mark_words.specs.declared.tables.Made.{Made}
use Rattle.mark_words.specs.declared.tables.Topic.{Topic}
use Rattle.mark_words.specs.Words.{clean_at, words_of_state}
use Rattle.mark_words.specs.Steps.{single_steps, made_of, OneMore, NoneHandedIn}
use Rattle.mark_words.specs.Rules.{HoldsRule}

-- the event happens in a state with these words, and leaves one with those
pub record IsOneEvent {E : Type 0} (worth : List E → ℕ → ℕ) (touches : List E → E → ℕ → Type 0) (words : List ℕ)
    (event : Event E) (words' : List ℕ) : Type 0 where
  pub before : State E
  pub outcome : Outcome
  pub after : State E
  pub words_before : words ≡ words_of_state before
  pub happens : Happens worth touches before event outcome after
  pub words_after : words' ≡ words_of_state after

-- the word of a load or a claim is the one that stood there, and that of a store the one that stands there then
abbrev pub HasWord : {E : Type 0} → List ℕ → List ℕ → Event E → ℕ → Type 0
HasWord words words' (See view) word = word ≡ slice_index words 0
HasWord words words' (Mark view entry place) word = word ≡ slice_index words' (3 * place + 1)
HasWord words words' (Commit view entry) word = word ≡ slice_index words' 0
HasWord words words' (ReadClean view place) word = word ≡ slice_index words (3 * place + 2)
HasWord words words' (ReadValue view place) word = word ≡ slice_index words (3 * place + 3)
HasWord words words' (ReadMark view place) word = word ≡ slice_index words (3 * place + 1)
HasWord words words' (Claim view place seen) word = word ≡ slice_index words (3 * place + 2)
HasWord words words' (Put view place stored) word = word ≡ slice_index words' (3 * place + 3)
HasWord words words' (Finish view place mark) word = word ≡ slice_index words' (3 * place + 2)
-- splits and joins have none
HasWord words words' (Split view) word = Unit {0}
HasWord words words' (Join view other) word = Unit {0}

module _ {S E : Type 0} (places : S → ℕ) (worth : S → List E → ℕ → ℕ) (touches : S → List E → E → ℕ → Type 0) (topic : Topic S) where
  -- the rule holds at this moment of the table
  abbrev pub Holds : TableState E (History S E) → Type 0
  Holds t = HoldsRule places worth touches topic t

  -- Where the rule holds, its state is honest,
  abbrev pub MomentsAreHonest : Type 0
  MomentsAreHonest =
      (t : TableState E (History S E)) (kept : Holds t)
      → IsHonest (places topic.subject.value) (worth topic.subject.value) (touches topic.subject.value) (IsCodeless topic.opening.value) kept.core

  -- events of the core have led to it from the opening one,
  abbrev pub EventsHaveLed : Type 0
  EventsHaveLed =
      (t : TableState E (History S E)) (kept : Holds t)
      → Runs (worth topic.subject.value) (touches topic.subject.value) (opening_state topic.opening.value)
      (map (λ (made : Made E). made.event) kept.events) kept.core

  -- the words of the table are the count of its log, and mark, clean word and value of each of its places,
  abbrev pub WordsAreThoseOfTheState : Type 0
  WordsAreThoseOfTheState =
      (t : TableState E (History S E)) (kept : Holds t)
      → (slice_index t.words 0 ≡ length kept.core.edits.log)
      × ((place : ℕ) → place < places topic.subject.value
      → (slice_index t.words (3 * place + 1) ≡ (place_at kept.core.places place).mark)
      × (clean_at (slice_index t.words (3 * place + 2)) ≡ (place_at kept.core.places place).clean)
      × (slice_index t.words (3 * place + 3) ≡ (place_at kept.core.places place).value))

  -- and its views are those of the seats that aren't spent.
  abbrev pub ViewsAreThoseOfTheSeats : Type 0
  ViewsAreThoseOfTheSeats =
      (t : TableState E (History S E)) (kept : Holds t) (seat : ℕ) (history : History S E)
      → get_elem? t.views seat ≡ some history
      → history.doing.view.spent ≡ false
      → view_at kept.core seat ≡ history.doing.view

  -- What is said of two moments at which the rule holds, where at the second one seat has made one step more, which is
  -- this event with this word, the other seats have what they had, and none was handed in to another.
  abbrev pub EachStep : ((t t' : TableState E (History S E)) → Holds t → Holds t' → History S E → Event E → ℕ → Type 0) → Type 0
  EachStep Says =
      (t t' : TableState E (History S E)) (kept : Holds t) (kept' : Holds t')
      (seat : ℕ) (before after : History S E) (event : ℕ → Event E) (word : ℕ) (one : OneMore before.steps after.steps event word)
      → get_elem? t.views seat ≡ some before
      → t'.views ≡ slice_set t.views seat after
      → NoneHandedIn t.views
      → NoneHandedIn t'.views
      → Says t t' kept kept' after (event one.view) word

  -- The events of the second moment have the single steps of the first, in their order, and this one at their end.
  abbrev pub StepsStandLast : Type 0
  StepsStandLast =
      EachStep (λ t t' kept kept' after event word. single_steps kept'.events ≡ single_steps kept.events ++ made_of event word ∷ [])

  -- It happens on the words of the first moment, and leaves those of the second.
  abbrev pub StepsAreEvents : Type 0
  StepsAreEvents =
      EachStep (λ t t' kept kept' after event word. IsOneEvent (worth topic.subject.value) (touches topic.subject.value) t.words event t'.words)

  -- Its word is the one that stood where it loads or claims, or stands where it stored.
  abbrev pub StepsHaveTheirWords : Type 0
  StepsHaveTheirWords = EachStep (λ t t' kept kept' after event word. HasWord t.words t'.words event word)

  -- So the count that a seat has seen after a see is the one that stood.
  abbrev pub SeesShowTheCount : Type 0
  SeesShowTheCount =
      EachStep (λ t t' kept kept' after event word. ((view : ℕ) → event ≡ See view
      → after.doing.view.spent ≡ false → after.doing.view.seen ≡ slice_index t.words 0))
