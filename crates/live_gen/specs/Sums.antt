-- The sum of the numbers among the values of a sheet.
use Rattle.std.specs.Prelude.{◌≡◌, ℕ, ℤ, pos, neg_ℤ, ◌+ℤ◌, ◌*◌, ◌≤ℤ◌, List, [], ◌∷◌, map}
use Rattle.sheet_refs.specs.Cells.{cells_of}
use Rattle.value_core.specs.declared.value.Value.{Value}
use Rattle.value_core.specs.declared.value.Value.TheVariants.{Empty, Number, Truth, Error, Label}
use Rattle.value_core.specs.Values.{IsValue, code_of}
use Rattle.sheet_model.specs.Sheets.{SheetValue}
use Rattle.sheet_model.specs.Values.{value_of}
use Rattle.window_text.specs.Transcripts.{whole_range}

-- the number that a value is; any other value counts as 0
abbrev pub number_in : Value → ℤ
number_in Empty = pos 0
number_in (Number number) = number
number_in (Truth truth) = pos 0
number_in (Error kind) = pos 0
number_in (Label place) = pos 0

-- the sum of the numbers among some values
abbrev pub numbers_sum : List Value → ℤ
numbers_sum [] = pos 0
numbers_sum (value ∷ values) = number_in value +ℤ numbers_sum values

-- the values of all cells of a sheet, row by row
abbrev pub values_of : SheetValue → List Value
values_of sheet = map (value_of sheet) (cells_of (whole_range sheet.sizes))

abbrev pub sheet_sum : SheetValue → ℤ
sheet_sum sheet = numbers_sum (values_of sheet)

-- at most so far from 0 as so many numbers of a sheet may be together
pub record IsSumOfAtMost (count : ℕ) (sum : ℤ) : Type 0 where
  pub least : neg_ℤ (pos (9007199254740991 * count)) ≤ℤ sum
  pub most : sum ≤ℤ pos (9007199254740991 * count)

-- the number that a value with this code is, where a value has it
abbrev pub IsNumberOf : ℕ → ℤ → Type 0
IsNumberOf code number = (value : Value) → IsValue value → code_of value ≡ code → number ≡ number_in value
