-- The rule of the table.
use Rattle.std.specs.Prelude.{◌≡◌, ◌≤◌, ℕ, List, [], ◌∷◌, Option, Some, true, false, map, length, Contains}
use mathlib.Core.Option.{some}
use lib.ListN.{get_elem?}
use Rattle.atomic_table.specs.Table.{State as TableState}
use Rattle.mark_core.specs.declared.words.Place.{Place}
use Rattle.mark_core.specs.Marks.{IsPrefix}
use Rattle.mark_core.specs.States.{State, view_at, opening_state}
use Rattle.mark_core.specs.Runs.{IsOpening}
use Rattle.mark_words.specs.declared.tables.Doing.{Doing}
use Rattle.mark_words.specs.declared.tables.History.{History}
use Rattle.mark_words.specs.declared.tables.Made.{Made}
use Rattle.mark_words.specs.declared.tables.Past.{Past}
use Rattle.mark_words.specs.declared.tables.Topic.{Topic}
use Rattle.mark_words.specs.Words.{words_of_state}
use Rattle.mark_words.specs.Steps.{steps_of, AreStepsOf}
use Rattle.mark_words.specs.Runs.{RunsWith}

-- the editor's seat is the first one, has the state's edits and knows each place's mark
pub record IsEditor {S E : Type 0} (core : State E) (seat : ℕ) (doing : Doing S E) : Type 0 where
  pub first : seat ≡ 0
  pub edits : doing.edits ≡ core.edits
  pub marks : doing.marks ≡ map (λ (place : Place). place.mark) core.places

-- the first seat is the editor's and no other is, and the shorter log of a seat is a prefix of the log that is
-- no longer than its own
pub record IsRightSeat {S E : Type 0} (core : State E) (seat : ℕ) (doing : Doing S E) : Type 0 where
  pub first : seat ≡ 0 → doing.editor ≡ true
  pub editor : doing.editor ≡ true → IsEditor core seat doing
  pub shorter : IsPrefix doing.shorter core.edits.log
  pub shorter_length : length doing.shorter ≤ length doing.view.log

-- the seat with this number is there, and is spent
pub record IsSpent {S E : Type 0} (seats : List (Doing S E)) (seat : ℕ) : Type 0 where
  pub doing : Doing S E
  pub there : get_elem? seats seat ≡ some doing
  pub spent : doing.view.spent ≡ true

-- no number stands twice
abbrev pub HaveNoRepeats : List ℕ → Type 0
HaveNoRepeats [] = Unit {0}
HaveNoRepeats (number ∷ numbers) = (Contains numbers number → ⊥) × HaveNoRepeats numbers

-- what state and events have of a seat
abbrev pub past_at : {E : Type 0} → State E → List (Made E) → ℕ → Past E
past_at core events seat = record { view = view_at core seat; steps = steps_of events seat }

-- what was handed in is what the state and the events have of so many spent seats, no two of which are one
pub record AreGathered {S E : Type 0} (core : State E) (events : List (Made E)) (seats : List (Doing S E)) (pasts : List (Past E)) : Type 0 where
  pub numbers : List ℕ
  pub same : map (past_at core events) numbers ≡ pasts
  pub spent : (seat : ℕ) → Contains numbers seat → IsSpent seats seat
  pub apart : HaveNoRepeats numbers

-- The state has a view for each seat, which is the seat's own while it isn't spent, and each seat is right.
pub record AreSeats {S E : Type 0} (core : State E) (events : List (Made E)) (seats : List (Doing S E)) : Type 0 where
  pub count : length core.views ≡ length seats
  pub views :
      (seat : ℕ) (doing : Doing S E) → get_elem? seats seat ≡ some doing → doing.view.spent ≡ false
      → view_at core seat ≡ doing.view
  pub each : (seat : ℕ) (doing : Doing S E) → get_elem? seats seat ≡ some doing → IsRightSeat core seat doing
  pub gathered :
      (seat : ℕ) (doing : Doing S E) → get_elem? seats seat ≡ some doing → AreGathered core events seats doing.gathered

-- each seat that isn't spent names the subject
abbrev pub NameSubject : {S E : Type 0} → S → List (Doing S E) → Type 0
NameSubject {S} {E} subject seats =
    (seat : ℕ) (doing : Doing S E) → get_elem? seats seat ≡ some doing → doing.view.spent ≡ false
    → doing.subject ≡ Some subject

-- what the seats of a table know and have done
abbrev pub doings_of : {S E : Type 0} → List (History S E) → List (Doing S E)
doings_of seats = map (λ history. history.doing) seats

-- The table is that of a run of the core: events have happened from the opening state on, each allowed where it
-- happened, and have led to a state whose words are those of the table and whose views are its seats'. So that state
-- is honest. The single steps of the run are those of the seats, each at its number and with its word.
pub record IsKeptTable {S E : Type 0} (subject : S) (places : ℕ) (worth : List E → ℕ → ℕ) (touches : List E → E → ℕ
    → Type 0) (opening : List (Option ℕ)) (t : TableState E (History S E)) : Type 0 where
  pub right : IsOpening places worth opening
  pub core : State E
  pub events : List (Made E)
  pub run : RunsWith worth touches (opening_state opening) events core
  pub words : t.words ≡ words_of_state core
  pub seats : AreSeats core events (doings_of t.views)
  pub steps : AreStepsOf events t.views
  pub subjects : NameSubject subject (doings_of t.views)

-- the rule, for what the table is about
abbrev pub HoldsRule : {S E : Type 0} → (S → ℕ) → (S → List E → ℕ → ℕ) → (S → List E → E → ℕ → Type 0) → Topic S → TableState E (History S E) → Type 0
HoldsRule places worth touches topic =
    IsKeptTable topic.subject.value (places topic.subject.value) (worth topic.subject.value) (touches topic.subject.value)
    topic.opening.value

-- how many places the table has
abbrev pub place_count : {S : Type 0} → Topic S → ℕ
place_count topic = length topic.opening.value
