-- Which entry of a list last touched a place.
use Rattle.std.specs.Prelude.{◌≡◌, ◌<◌, ◌≤◌, ◌+◌, ◌-◌, ℕ, List, ◌++◌, Some, length, take, slice_get}

-- the second list goes on from the first
pub record IsPrefix {X : Type 0} (xs ys : List X) : Type 0 where
  pub rest : List X
  pub whole : ys ≡ xs ++ rest

-- the entry with this number, counted from 1, touches the place after the entries before it
pub record IsTouched {E : Type 0} (touches : List E → E → ℕ → Type 0) (entries : List E) (place number : ℕ) : Type 0 where
  pub counted : 0 < number
  pub entry : E
  pub stands : slice_get entries (number - 1) ≡ Some entry
  pub touched : touches (take (number - 1) entries) entry place

-- the mark is the number of the last entry that touches the place, or 0 where none does
pub record IsLastMark {E : Type 0} (touches : List E → E → ℕ → Type 0) (entries : List E) (place mark : ℕ) : Type 0 where
  pub within : mark ≤ length entries
  pub touched : 0 < mark → IsTouched touches entries place mark
  pub none_later : (number : ℕ) → mark < number → number ≤ length entries → IsTouched touches entries place number → ⊥

-- no entry from this index on touches the place
abbrev pub NoneTouches : {E : Type 0} → (List E → E → ℕ → Type 0) → List E → ℕ → ℕ → Type 0
NoneTouches touches entries place from =
    (index : ℕ) → from ≤ index → index < length entries → IsTouched touches entries place (index + 1) → ⊥
