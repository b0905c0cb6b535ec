-- The parameters of a call, by their values.
use Rattle.std.specs.Prelude.{ℕ, zero, suc, Bool, true, false, List, [], ◌∷◌, map, filter, flat_map, Option, Some, None}
use Rattle.value_core.specs.declared.value.Value.{Value}
use Rattle.formula_eval.specs.declared.items.Item.{Item}
use Rattle.formula_eval.specs.declared.items.Item.TheVariants.{Cell, Alone}
use Rattle.value_core.specs.declared.value.Value.TheVariants.{Empty, Number, Truth, Error, Label}

-- a parameter: its value as a scalar, and the values of all cells of its range where it is written as a reference,
-- row by row, with how many rows and columns these are
pub record Parameter : Type 0 where
  pub scalar : Value
  pub cells : Option (List Value)
  pub rows : ℕ
  pub cols : ℕ

-- the range of one of some parameters, from 0: its values, and how many rows and columns they are
abbrev pub cells_at : List Parameter → ℕ → Option (List Value)
cells_at [] i = None
cells_at (parameter ∷ rest) zero = parameter.cells
cells_at (parameter ∷ rest) (suc i) = cells_at rest i

abbrev pub rows_at : List Parameter → ℕ → ℕ
rows_at [] i = 0
rows_at (parameter ∷ rest) zero = parameter.rows
rows_at (parameter ∷ rest) (suc i) = rows_at rest i

abbrev pub cols_at : List Parameter → ℕ → ℕ
cols_at [] i = 0
cols_at (parameter ∷ rest) zero = parameter.cols
cols_at (parameter ∷ rest) (suc i) = cols_at rest i

abbrev pub is_empty : Value → Bool
is_empty Empty = true
is_empty (Number n) = false
is_empty (Truth truth) = false
is_empty (Error kind) = false
is_empty (Label place) = false

abbrev pub is_filled : Value → Bool
is_filled Empty = false
is_filled (Number n) = true
is_filled (Truth truth) = true
is_filled (Error kind) = true
is_filled (Label place) = true

-- a range gives its cells that aren't empty, row by row
abbrev pub items_of_cells : List Value → List Item
items_of_cells cells = map Cell (filter is_filled cells)

-- another parameter gives its value
abbrev pub items_among : Value → Option (List Value) → List Item
items_among scalar None = Alone scalar ∷ []
items_among scalar (Some cells) = items_of_cells cells

abbrev pub items_of_parameter : Parameter → List Item
items_of_parameter parameter = items_among parameter.scalar parameter.cells

-- all parameters of a call as one sequence
abbrev pub items_of : List Parameter → List Item
items_of parameters = flat_map items_of_parameter parameters
