-- Words at equal distances in a list, and how many of them evaluation can read past.
use Rattle.std.specs.Prelude.{ℕ, ◌+◌, ◌*◌, ◌/◌, ◌%◌, ◌<◌, ◌≤◌, List, length, slice_index_or, Bool, IsTrue, IsFalse}
use Rattle.value_core.specs.Codes.{IsNumberWord}
use Rattle.sheet_model.specs.Words.{cell_state, is_plain_state}

-- so many words, from a place on and each so far behind the one before it, lie in the list
abbrev pub IsWithin : List ℕ → ℕ → ℕ → ℕ → Type 0
IsWithin words first step count = (k : ℕ) → k < count → first + k * step < length words

-- each of them has the kind of a number
abbrev pub HasNumbers : List ℕ → ℕ → ℕ → ℕ → Type 0
HasNumbers words first step count = (k : ℕ) → k < count → IsNumberWord (slice_index_or words (first + k * step) 0)

-- evaluation can read past the word at a place
abbrev pub is_plain_at : List ℕ → ℕ → Bool
is_plain_at words place = is_plain_state (cell_state (slice_index_or words place 0))

-- evaluation can read past so many of them, and no further
pub record StopsAfter (words : List ℕ) (first step count read : ℕ) : Type 0 where
  pub few : read ≤ count
  pub plain : (k : ℕ) → k < read → IsTrue (is_plain_at words (first + k * step))
  pub stop : read < count → IsFalse (is_plain_at words (first + read * step))

-- the words of so many rows, each so far behind the one above it, lie in the list
abbrev pub AreRowsWithin : List ℕ → ℕ → ℕ → ℕ → ℕ → Type 0
AreRowsWithin words first step rows cols = (row : ℕ) → row < rows → IsWithin words (first + row * step) 1 cols

-- where the word of a place among the rows stands, row by row
abbrev pub place_in_rows : ℕ → ℕ → ℕ → ℕ → ℕ
place_in_rows first step cols place = first + place / cols * step + place % cols

-- evaluation can read past the words of the rows from one place up to another, and no further
pub record StopsInRows (words : List ℕ) (first step rows cols next stop : ℕ) : Type 0 where
  pub from : next ≤ stop
  pub few : stop ≤ rows * cols
  pub plain : (place : ℕ) → next ≤ place → place < stop → IsTrue (is_plain_at words (place_in_rows first step cols place))
  pub stops : stop < rows * cols → IsFalse (is_plain_at words (place_in_rows first step cols stop))
