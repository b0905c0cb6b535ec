-- What each event does to the state, and what it answers.
use Rattle.std.specs.Prelude.{◌≡◌, ◌≢◌, ◌⊎◌, ◌+◌, ℕ, List, [], ◌∷◌, ◌++◌, Some, None, true, false, length, slice_set}
use Rattle.mark_core.specs.declared.words.Clean.{Clean}
use Rattle.mark_core.specs.declared.words.Place.{Place}
use Rattle.mark_core.specs.declared.events.Event.{Event}
use Rattle.mark_core.specs.declared.events.Event.TheVariants.{See, Mark, Commit, Split, Join, ReadClean, ReadValue, ReadMark, Claim, Put, Finish}
use Rattle.mark_core.specs.declared.events.Outcome.{Outcome}
use Rattle.mark_core.specs.declared.events.Outcome.TheVariants.{Done, Count, Word, Claimed, Seat}
use Rattle.mark_core.specs.declared.events.Outcome.TheVariants.{Clean as AnswersClean, Mark as AnswersMark}
use Rattle.mark_core.specs.Places.{place_at}
use Rattle.mark_core.specs.declared.actors.Edits.{Edits}
use Rattle.mark_core.specs.States.{State, view_at, with_view, spent_view}
use Rattle.mark_core.specs.Views.{with_count, with_entry, split_off, union_of, with_half, with_value, with_read_end}
use Rattle.mark_core.specs.Views.{with_hold, with_loss, with_put, without_hold}
use Rattle.mark_core.specs.Permissions.{Allowed}

-- the state with another place in place of this one
abbrev pub with_place : {E : Type 0} → State E → ℕ → Place → State E
with_place s place changed =
    record { edits = s.edits; places = slice_set s.places place changed; views = s.views }

-- the edits with this entry pending and the place among those marked for it
abbrev pub marks_for : {E : Type 0} → Edits E → E → ℕ → Edits E
marks_for edits entry place =
    record { log = edits.log; pending = Some entry; marked = edits.marked ++ place ∷ [] }

-- the edits with this entry at the end of the log
abbrev pub commits : {E : Type 0} → Edits E → E → Edits E
commits edits entry = record { log = edits.log ++ entry ∷ []; pending = None; marked = [] }

-- the view has seen how many entries the log has
abbrev pub after_see : {E : Type 0} → State E → ℕ → State E
after_see s view = with_view s view (with_count (view_at s view) (length s.edits.log))

-- the place has the number of the next entry for its mark, and the entry is pending
abbrev pub after_mark : {E : Type 0} → State E → E → ℕ → State E
after_mark s entry place =
    record {
      edits = marks_for s.edits entry place;
      places = slice_set s.places place (record (place_at s.places place) { mark = length s.edits.log + 1 });
      views = s.views;
    }

-- the entry is in the log, and the view that committed it knows it
abbrev pub after_commit : {E : Type 0} → State E → ℕ → E → State E
after_commit s view entry =
    record {
      edits = commits s.edits entry;
      places = s.places;
      views = slice_set s.views view (with_entry (view_at s view) entry);
    }

-- a new view stands after the others, which knows what this one does
abbrev pub after_split : {E : Type 0} → State E → ℕ → State E
after_split s view =
    record { edits = s.edits; places = s.places; views = s.views ++ split_off (view_at s view) ∷ [] }

-- the view has what both had, and the other is spent
abbrev pub after_join : {E : Type 0} → State E → ℕ → ℕ → State E
after_join s view other =
    with_view (with_view s view (union_of (view_at s view) (view_at s other))) other spent_view

-- the view has begun a read of the place
abbrev pub after_read_clean : {E : Type 0} → State E → ℕ → ℕ → State E
after_read_clean s view place =
    with_view s view (with_half (view_at s view) place (place_at s.places place).clean)

-- the begun read has the value, where it is a read of the place
abbrev pub after_read_value : {E : Type 0} → State E → ℕ → ℕ → State E
after_read_value s view place =
    with_view s view (with_value (view_at s view) place (place_at s.places place).value)

-- the begun read has ended with the mark, where it is a read of the place
abbrev pub after_read_mark : {E : Type 0} → State E → ℕ → ℕ → State E
after_read_mark s view place =
    with_view s view (with_read_end (view_at s view) place (place_at s.places place).mark)

-- the view holds the place, whose clean word says so
abbrev pub after_claim : {E : Type 0} → State E → ℕ → ℕ → Clean → State E
after_claim s view place seen =
    with_place (with_view s view (with_hold (view_at s view) place)) place
    (record (place_at s.places place) { clean = record { upto = seen.upto; held = true } })

-- the view has noted the clean word that it found
abbrev pub after_refusal : {E : Type 0} → State E → ℕ → ℕ → State E
after_refusal s view place =
    with_view s view (with_loss (view_at s view) place (place_at s.places place).clean)

-- the place has the word, and the view has noted it at its hold
abbrev pub after_put : {E : Type 0} → State E → ℕ → ℕ → ℕ → State E
after_put s view place word =
    with_place (with_view s view (with_put (view_at s view) place word)) place
    (record (place_at s.places place) { value = word })

-- the place is free and computed for the mark, and the view holds it no more
abbrev pub after_finish : {E : Type 0} → State E → ℕ → ℕ → ℕ → State E
after_finish s view place mark =
    with_place (with_view s view (without_hold (view_at s view) place mark)) place
    (record (place_at s.places place) { clean = record { upto = mark + 1; held = false } })

-- the claim found the clean word that it expected, and holds the place
pub record ClaimTakes {E : Type 0} (s : State E) (view place : ℕ) (seen : Clean) (outcome : Outcome) (after : State E) : Type 0 where
  pub found : (place_at s.places place).clean ≡ seen
  pub answer : outcome ≡ Claimed true
  pub effect : after ≡ after_claim s view place seen

-- the claim found another clean word, and notes it
pub record ClaimMisses {E : Type 0} (s : State E) (view place : ℕ) (seen : Clean) (outcome : Outcome) (after : State E) : Type 0 where
  pub found : (place_at s.places place).clean ≢ seen
  pub answer : outcome ≡ Claimed false
  pub effect : after ≡ after_refusal s view place

-- the event, the answer and the state after it belong together
abbrev pub Gives : {E : Type 0} → State E → Event E → Outcome → State E → Type 0
Gives s (See view) outcome after = (outcome ≡ Count (length s.edits.log)) × (after ≡ after_see s view)
Gives s (Mark view entry place) outcome after = (outcome ≡ Done) × (after ≡ after_mark s entry place)
Gives s (Commit view entry) outcome after =
    (outcome ≡ Count (length s.edits.log + 1)) × (after ≡ after_commit s view entry)
Gives s (Split view) outcome after = (outcome ≡ Seat (length s.views)) × (after ≡ after_split s view)
Gives s (Join view other) outcome after = (outcome ≡ Done) × (after ≡ after_join s view other)
Gives s (ReadClean view place) outcome after =
    (outcome ≡ AnswersClean (place_at s.places place).clean) × (after ≡ after_read_clean s view place)
Gives s (ReadValue view place) outcome after =
    (outcome ≡ Word (place_at s.places place).value) × (after ≡ after_read_value s view place)
Gives s (ReadMark view place) outcome after =
    (outcome ≡ AnswersMark (place_at s.places place).mark) × (after ≡ after_read_mark s view place)
Gives s (Claim view place seen) outcome after =
    ClaimTakes s view place seen outcome after ⊎ ClaimMisses s view place seen outcome after
Gives s (Put view place word) outcome after = (outcome ≡ Done) × (after ≡ after_put s view place word)
Gives s (Finish view place mark) outcome after = (outcome ≡ Done) × (after ≡ after_finish s view place mark)

-- the event is allowed, and this is what it does
pub record Happens {E : Type 0} (worth : List E → ℕ → ℕ) (touches : List E → E → ℕ → Type 0) (s : State E)
    (event : Event E) (outcome : Outcome) (after : State E) : Type 0 where
  pub allowed : Allowed worth touches s event
  pub gives : Gives s event outcome after
