-- What is known of the cells of a rectangle, as a word for each: the code of its value, or one of two words that no value has.
use Rattle.std.specs.Prelude.{◌≡◌, ℕ, pos, negsuc, ◌≤ℤ◌, ◌==◌, Bool, false, not, if◌then◌else◌, List, map, slice_get, slice_index_or, Option, Some, None}
use Rattle.std.proofs.Props.{props}
use Rattle.sheet_refs.specs.Cells.{Position}
use Rattle.sheet_refs.specs.Sizes.{place_of}
use Rattle.sheet_refs.specs.declared.sizes.Sizes.{Sizes}
use Rattle.value_core.specs.declared.value.Value.{Value}
use Rattle.value_core.specs.declared.value.Value.TheVariants.{Empty, Number, Truth, Error, Label}
use Rattle.value_core.specs.Codes.{unseen_word, open_word, is_spare}
use Rattle.value_core.specs.Decoding.{value_of_word}
use Rattle.value_core.specs.Values.{IsValue, code_of}
use Rattle.formula_eval.specs.Meaning.{is_circular}

-- what is known of a cell: it wasn't looked at, or waits for another one, or has this value
pub data CellState : Type 0 where
  Unseen : CellState
  Open : CellState
  Known : Value → CellState

-- the state for which a word stands
abbrev pub cell_state : ℕ → CellState
cell_state word = if word == unseen_word then Unseen else (if word == open_word then Open else Known (value_of_word word))

-- that a value is in range has one proof at most
pub value_prop : (v : Value) → IsProp (IsValue v)
value_prop Empty = hlevel props
value_prop (Number n) =
    let least : IsProp (negsuc 9007199254740990 ≤ℤ n) = hlevel props in
    let most : IsProp (n ≤ℤ pos 9007199254740991) = hlevel props in
    λ x y i. record { least = least x.least y.least i; most = most x.most y.most i }
value_prop (Truth truth) = hlevel props
value_prop (Error kind) = hlevel props
value_prop (Label place) = hlevel props

-- a word that is the code of the value for which it stands, if it stands for one
abbrev pub IsCodeWord : ℕ → Type 0
IsCodeWord word = (v : Value) → cell_state word ≡ Known v → IsValue v × (code_of v ≡ word)

abbrev pub AreWords : List ℕ → Type 0
AreWords words = (i : ℕ) (word : ℕ) → slice_get words i ≡ Some word → IsCodeWord word

-- the states of all cells
abbrev pub states_of : List ℕ → List CellState
states_of words = map cell_state words

-- the code that is known by a word
abbrev pub known_code : ℕ → Option ℕ
known_code word = if is_spare word then None else Some word

-- the codes that are known of the cells of a rectangle
abbrev pub known_codes : Sizes → List ℕ → Position → Option ℕ
known_codes sizes words cell = known_code (slice_index_or words (place_of sizes cell) 0)

-- a known value other than #CIRC!
abbrev pub is_plain_state : CellState → Bool
is_plain_state Unseen = false
is_plain_state Open = false
is_plain_state (Known value) = not (is_circular value)

-- a cell of the rectangle that evaluation can read past: its value is known to be other than #CIRC!
abbrev pub is_plain : Sizes → List CellState → Position → Bool
is_plain sizes states cell = is_plain_state (slice_index_or states (place_of sizes cell) Unseen)
