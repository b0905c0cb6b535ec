-- What a walk over a range takes of its cells, and what a range among parameters is.
use Rattle.std.specs.Prelude.{◌≡◌, ◌⊎◌, ℕ, ◌+◌, ◌-◌, List, map, Option, Some, None, if◌then◌else◌}
use Rattle.sheet_refs.specs.Cells.{Position, Corners, IsIn, cells_of, height, width}
use Rattle.sheet_refs.specs.declared.sizes.Sizes.{Sizes}
use Rattle.value_core.specs.declared.value.Value.{Value}
use Rattle.value_core.specs.declared.value.Value.TheVariants.{Empty}
use Rattle.formula_syntax.specs.declared.tree.Node.{Node}
use Rattle.formula_syntax.specs.Tree.{trees_of}
use Rattle.formula_eval.specs.declared.items.Item.{Item}
use Rattle.formula_eval.specs.declared.cells.View.{View}
use Rattle.formula_eval.specs.declared.cells.View.TheVariants.{All, Where}
use Rattle.formula_eval.specs.Functions.{equals}
use Rattle.formula_eval.specs.Inputs.{IsPlainRange, seen_values}
use Rattle.formula_eval.specs.Items.{items_of_cells, cells_at, rows_at, cols_at}
use Rattle.formula_eval.specs.Meaning.{parameter_values}
use Rattle.formula_eval.specs.Seen.{AllPlain}

-- two ranges have as many rows and as many columns
pub record HaveSameSizes (from to : Corners) : Type 0 where
  pub rows : height from ≡ height to
  pub cols : width from ≡ width to

-- the cell of one range at the place of a cell of another
abbrev pub partner_of : Corners → Corners → Position → Position
partner_of from to cell = record { row = to.head.row + (cell.row - from.head.row); col = to.head.col + (cell.col - from.head.col) }

-- what is taken of a cell
abbrev pub looked : View → (Position → Value) → Position → Value
looked All h = h
looked (Where n from to) h = λ cell. if equals n (h cell) then h (partner_of from to cell) else Empty

-- the items of what is taken of a range's cells
abbrev pub seen_items : Sizes → (Position → Option ℕ) → View → Corners → List Item
seen_items sizes codes view range = items_of_cells (map (looked view (seen_values sizes codes)) (cells_of range))

-- a view of the cells of a range, and of one cell
abbrev pub IsViewOf : Sizes → (Position → Option ℕ) → Corners → View → Type 0
IsViewOf sizes codes range All = Unit {0}
IsViewOf sizes codes range (Where n from to) = (range ≡ from) × HaveSameSizes from to × IsPlainRange sizes codes to

abbrev pub IsViewAt : Sizes → (Position → Option ℕ) → Position → View → Type 0
IsViewAt sizes codes cell All = Unit {0}
IsViewAt sizes codes cell (Where n from to) = IsIn cell from × HaveSameSizes from to × IsPlainRange sizes codes to

-- a parameter is written as a reference to a range, and it is not
pub record IsRangeAt (nodes : List Node) (place : ℕ) (range : Corners) : Type 0 where
  pub plain : (sizes : Sizes) (codes : Position → Option ℕ) → AllPlain sizes codes (trees_of nodes) → IsPlainRange sizes codes range
  pub cells : (h : Position → Value) → cells_at (parameter_values h (trees_of nodes)) place ≡ Some (map h (cells_of range))
  pub rows : (h : Position → Value) → rows_at (parameter_values h (trees_of nodes)) place ≡ height range
  pub cols : (h : Position → Value) → cols_at (parameter_values h (trees_of nodes)) place ≡ width range

abbrev pub HasNoRangeAt : List Node → ℕ → Type 0
HasNoRangeAt nodes place = (h : Position → Value) → cells_at (parameter_values h (trees_of nodes)) place ≡ None

-- a range of one row or of one column
abbrev pub IsLine : Corners → Type 0
IsLine range = (height range ≡ 1) ⊎ (width range ≡ 1)
