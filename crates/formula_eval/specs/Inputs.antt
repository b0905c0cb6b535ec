-- What an evaluation sees of a sheet: its sizes, and codes of the values of some of its cells.
use Rattle.std.specs.Prelude.{◌≡◌, ◌≢◌, ℕ, List, Option, Some, None, if◌then◌else◌, IsTrue, All}
use Rattle.sheet_refs.specs.Cells.{Position, Corners, IsIn}
use Rattle.sheet_refs.specs.declared.sizes.Sizes.{Sizes}
use Rattle.sheet_refs.specs.Ends.{Reference, corners_of}
use Rattle.sheet_refs.specs.Sizes.{is_inside}
use Rattle.value_core.specs.declared.value.ErrorKind.TheVariants.{Circ}
use Rattle.value_core.specs.declared.value.Value.{Value}
use Rattle.value_core.specs.declared.value.Value.TheVariants.{Empty, Error}
use Rattle.value_core.specs.Decoding.{value_of_word}
use Rattle.value_core.specs.Values.{IsValue, code_of}

-- the code of a value
abbrev pub IsCode : ℕ → Type 0
IsCode word = (value : Value) × IsValue value × (code_of value ≡ word)

-- values within the rectangle; a cell past it is empty
abbrev pub within : Sizes → (Position → Value) → Position → Value
within sizes values cell = if is_inside sizes cell then values cell else Empty

-- the value of the code that is held of a cell
abbrev pub value_of_code : Option ℕ → Value
value_of_code None = Empty
value_of_code (Some word) = value_of_word word

-- the values of the codes that are held
abbrev pub seen_values : Sizes → (Position → Option ℕ) → Position → Value
seen_values sizes codes = within sizes (λ cell. value_of_code (codes cell))

-- a cell of which the code of a value other than #CIRC! is held
abbrev pub IsKnownPlain : (Position → Option ℕ) → Position → Type 0
IsKnownPlain codes cell = (word : ℕ) × IsCode word × (codes cell ≡ Some word) × (word ≢ code_of (Error Circ))

-- a cell that evaluation can read past: such a one, or one outside the rectangle
abbrev pub IsPlain : Sizes → (Position → Option ℕ) → Position → Type 0
IsPlain sizes codes cell = IsTrue (is_inside sizes cell) → IsKnownPlain codes cell

-- all cells of a range are so
pub record IsPlainRange (sizes : Sizes) (codes : Position → Option ℕ) (range : Corners) : Type 0 where
  pub plain : (cell : Position) → IsIn cell range → IsPlain sizes codes cell

-- all cells of a list of references are so
abbrev pub ArePlain : Sizes → (Position → Option ℕ) → List Reference → Type 0
ArePlain sizes codes references = All (λ r. IsPlainRange sizes codes (corners_of r)) references
