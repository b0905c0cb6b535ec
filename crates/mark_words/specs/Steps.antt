-- Which events of a list are single steps, and whose they are.
use Rattle.std.specs.Prelude.{◌≡◌, ◌≤◌, ◌==◌, ℕ, suc, List, [], ◌∷◌, ◌++◌, Bool, true, false, if◌then◌else◌, length}
use mathlib.Core.Option.{some}
use lib.ListN.{get_elem?}
use Rattle.mark_core.specs.declared.events.Event.{Event}
use Rattle.mark_core.specs.declared.events.Event.TheVariants.{See, Mark, Commit, Split, Join, ReadClean, ReadValue, ReadMark, Claim, Put, Finish}
use Rattle.mark_words.specs.declared.tables.History.{History}
use Rattle.mark_words.specs.declared.tables.Made.{Made}
use Rattle.mark_words.specs.declared.tables.OwnStep.{OwnStep}

-- the view that makes the event
abbrev pub actor_of : {E : Type 0} → Event E → ℕ
actor_of (See view) = view
actor_of (Mark view entry place) = view
actor_of (Commit view entry) = view
actor_of (Split view) = view
actor_of (Join view other) = view
actor_of (ReadClean view place) = view
actor_of (ReadValue view place) = view
actor_of (ReadMark view place) = view
actor_of (Claim view place seen) = view
actor_of (Put view place word) = view
actor_of (Finish view place mark) = view

-- a single step loads or stores a word, which splits and joins of views don't
abbrev pub is_single : {E : Type 0} → Event E → Bool
is_single (Split view) = false
is_single (Join view other) = false
is_single event = true

-- the single steps among the events
abbrev pub single_steps : {E : Type 0} → List (Made E) → List (Made E)
single_steps [] = []
single_steps (made ∷ events) = if is_single made.event then made ∷ single_steps events else single_steps events

-- those that this view makes, each with its place in the list, counted from this number on
abbrev pub steps_from : {E : Type 0} → ℕ → ℕ → List (Made E) → List (OwnStep E)
steps_from view number [] = []
steps_from view number (made ∷ events) =
    if actor_of made.event == view
    then record { number = number; made = made } ∷ steps_from view (suc number) events
    else steps_from view (suc number) events

-- the single steps of one view among the events
abbrev pub steps_of : {E : Type 0} → List (Made E) → ℕ → List (OwnStep E)
steps_of events view = steps_from view 0 (single_steps events)

-- an event with its word
abbrev pub made_of : {E : Type 0} → Event E → ℕ → Made E
made_of event word = record { event = event; word = word }

-- one step more, which is this event of some view, with this word
pub record OneMore {E : Type 0} (before after : List (OwnStep E)) (event : ℕ → Event E) (word : ℕ) : Type 0 where
  pub view : ℕ
  pub number : ℕ
  pub is : after ≡ before ++ record { number = number; made = made_of (event view) word } ∷ []

-- no seat was handed in to another, as only a closing does
abbrev pub NoneHandedIn : {S E : Type 0} → List (History S E) → Type 0
NoneHandedIn {S} {E} seats =
    (seat : ℕ) (history : History S E) → get_elem? seats seat ≡ some history → history.doing.gathered ≡ []

-- Each seat's steps are those that its view makes among the events, and a view without a seat makes none. Of a spent
-- seat this is known while no seat was handed in. So each single step of the list is one of one seat, at its number.
pub record AreStepsOf {S E : Type 0} (events : List (Made E)) (seats : List (History S E)) : Type 0 where
  pub each :
      (seat : ℕ) (history : History S E) → get_elem? seats seat ≡ some history
      → (history.doing.view.spent ≡ true → NoneHandedIn seats) → history.steps ≡ steps_of events seat
  pub none : (seat : ℕ) → length seats ≤ seat → steps_of events seat ≡ []
