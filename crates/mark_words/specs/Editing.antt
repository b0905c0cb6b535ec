-- What the editor's steps want of its seat.
use Rattle.std.specs.Prelude.{◌≡◌, ◌<◌, ◌⊎◌, ℕ, List, Some, None, Contains}
use Rattle.mark_words.specs.declared.tables.Doing.{Doing}

-- nothing is pending, or this entry is
abbrev pub IsIdleFor : {S E : Type 0} → Doing S E → E → Type 0
IsIdleFor doing entry = (doing.edits.pending ≡ None) ⊎ (doing.edits.pending ≡ Some entry)

-- each place that the pending entry touches is marked for it
abbrev pub IsAllMarked : {S E : Type 0} → ℕ → (List E → E → ℕ → Type 0) → Doing S E → Type 0
IsAllMarked {S} {E} places touches doing =
    (entry : E) → doing.edits.pending ≡ Some entry
    → (place : ℕ) → place < places → touches doing.view.log entry place → Contains doing.edits.marked place
