-- What may be shown of a place: to a reader, and in a cell of a look.
use Rattle.std.specs.Prelude.{◌≡◌, ◌<◌, ◌≤◌, ◌+◌, ◌⊎◌, ℕ, List, length, take}
use Rattle.mark_core.specs.declared.actors.Edits.{Edits}
use Rattle.mark_core.specs.declared.words.Finished.{Finished}
use Rattle.mark_core.specs.declared.answers.Seen.{Seen}
use Rattle.mark_core.specs.declared.answers.Seen.TheVariants.{Value, Stale, Newer}
use Rattle.mark_core.specs.Answers.{Shows}
use Rattle.mark_core.specs.Marks.{IsTouched, IsLastMark}
use Rattle.mark_core.specs.States.{entries_of}

-- What may be shown of a place at a number of commits. `codeless` says where the opening gave no code.
abbrev pub IsLegalAnswer : {E : Type 0} → (List E → ℕ → ℕ) → (List E → E → ℕ → Type 0) → (ℕ → Type 0) → Edits E → ℕ → ℕ → Seen → Type 0
-- a value is the worth after that many entries
IsLegalAnswer worth touches codeless edits number place (Value word) = word ≡ worth (take number edits.log) place
-- a stale mark is the last one in that many entries, and 0 only where the opening gave no code; or it is
-- that of a later entry, which touches the place and may be the pending one
IsLegalAnswer worth touches codeless edits number place (Stale mark) =
    ((mark ≤ number) × IsLastMark touches (take number edits.log) place mark × (mark ≡ 0 → codeless place))
    ⊎ ((number < mark) × IsTouched touches (entries_of edits) place mark)
-- a newer mark is that of a later entry of the log, which touches the place
IsLegalAnswer worth touches codeless edits number place (Newer mark) = (number < mark) × IsTouched touches edits.log place mark

-- A cell of a look that saw this number of commits is legal. It has no mark beside a value.
pub record IsLegalCell {E : Type 0} (worth : List E → ℕ → ℕ) (touches : List E → E → ℕ → Type 0) (codeless : ℕ
    → Type 0) (edits : Edits E) (number place : ℕ) (shown : Seen) : Type 0 where
  pub within : number ≤ length edits.log
  pub answer : IsLegalAnswer worth touches codeless edits number place shown

-- the mark is at least the floor, or the place was read as computed for the mark that gave the floor
abbrev pub MeetsFloor : ℕ → ℕ → ℕ → Type 0
MeetsFloor mark floor upto = (floor ≤ mark) ⊎ ((mark + 1 ≡ floor) × (upto ≡ floor))

-- A finished read with this word is legal: its number is within the log, it met its floor, whatever it
-- shows may be shown, and beside a value its mark is the last one in so many entries.
pub record IsLegalRead {E : Type 0} (worth : List E → ℕ → ℕ) (touches : List E → E → ℕ → Type 0) (codeless : ℕ
    → Type 0) (edits : Edits E) (read : Finished) (word : ℕ) : Type 0 where
  pub within : read.number ≤ length edits.log
  pub floor : MeetsFloor read.mark read.floor read.clean.upto
  pub answer :
      (shown : Seen) → Shows read.number read.clean word read.mark shown
      → IsLegalAnswer worth touches codeless edits read.number read.place shown
  pub last :
      (value : ℕ) → Shows read.number read.clean word read.mark (Value value)
      → IsLastMark touches (take read.number edits.log) read.place read.mark
