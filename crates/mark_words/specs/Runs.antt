-- Runs of the core's events, each with its word.
use Rattle.std.specs.Prelude.{◌≡◌, ℕ, ◌+◌, ◌*◌, List, [], ◌∷◌, length}
use Rattle.mark_core.specs.declared.events.Event.{Event}
use Rattle.mark_core.specs.declared.events.Event.TheVariants.{See, Mark, Commit, Split, Join, ReadClean, ReadValue, ReadMark, Claim, Put, Finish}
use Rattle.mark_core.specs.declared.events.Outcome.{Outcome}
use Rattle.mark_core.specs.Places.{place_at}
use Rattle.mark_core.specs.States.{State}
use Rattle.mark_core.specs.Steps.{Happens}
use Rattle.mark_words.specs.declared.tables.Made.{Made}
use Rattle.mark_words.specs.Words.{word_of_clean}

-- the word of an event that happens in the state: the one that it loads or stores, or that a claim finds; splits and
-- joins have none
abbrev pub word_in : {E : Type 0} → State E → Event E → ℕ
word_in s (See view) = length s.edits.log
word_in s (Mark view entry place) = length s.edits.log + 1
word_in s (Commit view entry) = length s.edits.log + 1
word_in s (Split view) = 0
word_in s (Join view other) = 0
word_in s (ReadClean view place) = word_of_clean (place_at s.places place).clean
word_in s (ReadValue view place) = (place_at s.places place).value
word_in s (ReadMark view place) = (place_at s.places place).mark
word_in s (Claim view place seen) = word_of_clean (place_at s.places place).clean
word_in s (Put view place word) = word
word_in s (Finish view place mark) = 2 * (mark + 1)

-- the events happen in order, each allowed in the state that the ones before it leave, where its word is this
abbrev pub RunsWith : {E : Type 0} → (List E → ℕ → ℕ) → (List E → E → ℕ → Type 0) → State E → List (Made E) → State E → Type 0
RunsWith worth touches s [] after = after ≡ s
RunsWith {E} worth touches s (made ∷ events) after =
    (next : State E) × (outcome : Outcome) × Happens worth touches s made.event outcome next × (made.word ≡ word_in s made.event)
    × RunsWith worth touches next events after
