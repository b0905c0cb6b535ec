-- What a formula means over the values of cells, and its value.
use Rattle.std.specs.Prelude.{◌≡◌, ℕ, ◌==◌, Bool, true, false, ◌&&◌, if◌then◌else◌, IsTrue, List, [], ◌∷◌, map, Option, Some, None, IsSome, slice_get}
use Rattle.std.specs.List.{list_any}
use Rattle.sheet_refs.specs.Cells.{Position, Corners, IsIn, cells_of, height, width}
use Rattle.sheet_refs.specs.declared.sizes.Sizes.{Sizes}
use Rattle.sheet_refs.specs.Ends.{Reference, corners_of}
use Rattle.sheet_refs.specs.Sizes.{is_inside}
use Rattle.value_core.specs.declared.value.ErrorKind.TheVariants as error
use Rattle.value_core.specs.declared.value.Value.{Value}
use Rattle.value_core.specs.declared.value.Value.TheVariants.{Number, Truth, Error}
use Rattle.value_core.specs.Conversions.{never_empty}
use Rattle.value_core.specs.Operators.{binary_of, prefix_of}
use Rattle.value_core.specs.Values.{IsValue, code_of}
use Rattle.formula_syntax.specs.Tree.{Tree, Trees, number, truth, error, reference, prefix, binary, call, no_trees, and_trees, references_of}
use Rattle.formula_eval.specs.Inputs.{within}
use Rattle.formula_eval.specs.Items.{Parameter}
use Rattle.formula_eval.specs.Functions.{function_value}

-- a range that is one cell
abbrev pub is_one_cell : Corners → Bool
is_one_cell range = (range.head.row == range.tail.row) && (range.head.col == range.tail.col)

-- a range where one value is wanted: that of its one cell
abbrev pub scalar_of_range : (Position → Value) → Corners → Value
scalar_of_range values range = if is_one_cell range then values range.head else Error error.Value

-- the values of a range's cells, of a tree that is a reference
abbrev pub cells_of_tree : (Position → Value) → Tree → Option (List Value)
cells_of_tree values (reference r) = Some (map values (cells_of (corners_of r)))
cells_of_tree values _ = None

-- how many rows and columns the range has, of a tree that is a reference
abbrev pub rows_of_tree : Tree → ℕ
rows_of_tree (reference r) = height (corners_of r)
rows_of_tree _ = 0

abbrev pub cols_of_tree : Tree → ℕ
cols_of_tree (reference r) = width (corners_of r)
cols_of_tree _ = 0

-- what a tree means where one value is wanted, and what the parameters of a call are
abbrev mutual
  pub meaning : (Position → Value) → Tree → Value
  meaning values (number n) = Number n
  meaning values (truth b) = Truth b
  meaning values (error kind) = Error kind
  meaning values (reference r) = scalar_of_range values (corners_of r)
  meaning values (prefix op operand) = prefix_of op (meaning values operand)
  meaning values (binary op left right) = binary_of op (meaning values left) (meaning values right)
  meaning values (call f parameters) = never_empty (function_value f (parameter_values values parameters))

  pub parameter_values : (Position → Value) → Trees → List Parameter
  parameter_values values no_trees = []
  parameter_values values (and_trees tree rest) =
      record {
        scalar = meaning values tree;
        cells = cells_of_tree values tree;
        rows = rows_of_tree tree;
        cols = cols_of_tree tree;
      } ∷ parameter_values values rest

-- one parameter of a call
abbrev pub parameter_value : (Position → Value) → Tree → Parameter
parameter_value values tree = record { scalar = meaning values tree; cells = cells_of_tree values tree; rows = rows_of_tree tree; cols = cols_of_tree tree }

-- a tree that is no reference
abbrev pub IsNoReference : Tree → Type 0
IsNoReference tree = (values : Position → Value) → cells_of_tree values tree ≡ None

-- whether the value is #CIRC!
abbrev pub is_circular : Value → Bool
is_circular (Error error.Circ) = true
is_circular _ = false

-- whether some cell of the references has the value #CIRC!
abbrev pub has_circular : (Position → Value) → List Reference → Bool
has_circular values references = list_any (λ r. list_any (λ cell. is_circular (values cell)) (cells_of (corners_of r))) references

-- one step of evaluation: a formula's value from those of the cells of a rectangle
abbrev pub formula_value : Sizes → Tree → (Position → Value) → Value
formula_value sizes tree values =
    if has_circular (within sizes values) (references_of tree) then Error error.Circ else never_empty (meaning (within sizes values) tree)

-- a cell in the range of one of the references
pub record IsNamedBy (references : List Reference) (cell : Position) : Type 0 where
  pub through : Reference
  pub place : ℕ
  pub listed : slice_get references place ≡ Some through
  pub inside : IsIn cell (corners_of through)

-- a cell that a formula names
abbrev pub IsReferenced : Tree → Position → Type 0
IsReferenced tree cell = IsNamedBy (references_of tree) cell

-- something is held of each cell of the rectangle that a formula names
abbrev pub IsKnown : Sizes → (Position → Option ℕ) → Tree → Type 0
IsKnown sizes codes tree = (cell : Position) → IsReferenced tree cell → IsTrue (is_inside sizes cell) → IsSome (codes cell)

-- values that have the codes which are held of cells of the rectangle that a formula names
abbrev pub Agrees : Sizes → (Position → Option ℕ) → Tree → (Position → Value) → Type 0
Agrees sizes codes tree values = (cell : Position) (word : ℕ) → IsReferenced tree cell → IsTrue (is_inside sizes cell)
    → codes cell ≡ Some word → IsValue (values cell) × (code_of (values cell) ≡ word)

-- a value that a formula has over all values that agree
abbrev pub IsFormulaValue : Sizes → (Position → Option ℕ) → Tree → Value → Type 0
IsFormulaValue sizes codes tree value = (values : Position → Value) → Agrees sizes codes tree values → value ≡ formula_value sizes tree values
