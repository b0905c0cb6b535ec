-- What holds of the values of all formulas, and of some functions.
use Rattle.std.specs.Prelude.{◌≡◌, ◌≢◌, ◌⊎◌, ◌↔◌, Option, IsSome, Contains, negsuc, ℕ, ◌+◌, ◌<◌, ℤ, pos, ◌+ℤ◌, ◌*ℤ◌, ◌≤ℤ◌, ◌<ℤ◌, nat_abs, length, IsTrue}
use Rattle.sheet_refs.specs.Cells.{Position, IsIn, cells_of}
use Rattle.sheet_refs.specs.Ends.{Reference, corners_of}
use Rattle.sheet_refs.specs.declared.sizes.Sizes.{Sizes}
use Rattle.sheet_refs.specs.Sizes.{is_inside}
use Rattle.value_core.specs.declared.value.ErrorKind.TheVariants.{Div0}
use Rattle.value_core.specs.declared.value.Value.{Value}
use Rattle.value_core.specs.declared.value.Value.TheVariants.{Empty, Number, Error}
use Rattle.value_core.specs.Values.{IsValue}
use Rattle.value_core.specs.Wholes.{IsWhole}
use Rattle.formula_syntax.specs.declared.functions.Function.{Function}
use Rattle.formula_syntax.specs.declared.functions.Function.TheVariants.{Counta, Countblank}
use Rattle.formula_syntax.specs.Formula.{IsFormula}
use Rattle.formula_syntax.specs.Tree.{Tree, reference, call, no_trees, and_trees, references_of}
use Rattle.formula_eval.specs.Meaning.{meaning, formula_value, IsReferenced, IsKnown}

-- each cell of the rectangle that a formula names has a value in range
abbrev pub HasValues : Sizes → Tree → (Position → Value) → Type 0
HasValues sizes tree values = (cell : Position) → IsTrue (is_inside sizes cell) → IsReferenced tree cell → IsValue (values cell)

-- over such cells a formula has a value in range
abbrev pub FormulasGiveValues : Type 0
FormulasGiveValues = (sizes : Sizes) (tree : Tree) (values : Position → Value) → IsFormula tree
    → HasValues sizes tree values → IsValue (formula_value sizes tree values)

-- over any cells, none is empty
abbrev pub FormulasAreFilled : Type 0
FormulasAreFilled = (sizes : Sizes) (tree : Tree) (values : Position → Value) → formula_value sizes tree values ≢ Empty

-- the call of a function of a range, and of two parameters
abbrev pub of_range : Function → Reference → Tree
of_range f r = call f (and_trees (reference r) no_trees)

abbrev pub of_two : Function → Tree → Tree → Tree
of_two f a b = call f (and_trees a (and_trees b no_trees))

-- the cells of a range are those that COUNTA counts and those that COUNTBLANK counts
abbrev pub CountsAreAllCells : Type 0
CountsAreAllCells =
    (values : Position → Value) (r : Reference) → (filled : ℕ) × (blank : ℕ)
    × (meaning values (of_range Counta r) ≡ Number (pos filled))
    × (meaning values (of_range Countblank r) ≡ Number (pos blank))
    × (filled + blank ≡ length (cells_of (corners_of r)))

-- a function of two numbers in range, of which the second isn't 0, gives a number that is so
abbrev pub GivesOfTwo : Function → (ℤ → ℤ → ℤ → Type 0) → Type 0
GivesOfTwo f Is =
    (values : Position → Value) (a b : Tree) (m n : ℤ) → meaning values a ≡ Number m → meaning values b ≡ Number n
    → IsWhole m → IsWhole n → n ≢ pos 0 → (z : ℤ) × (meaning values (of_two f a b) ≡ Number z) × Is m n z

-- and #DIV/0! where the second is 0
abbrev pub RefusesZero : Function → Type 0
RefusesZero f = (values : Position → Value) (a b : Tree) (m : ℤ) → meaning values a ≡ Number m
    → meaning values b ≡ Number (pos 0) → meaning values (of_two f a b) ≡ Error Div0

-- from 0 on and below a number, or up to 0 and above it
abbrev pub IsBetweenZeroAnd : ℤ → ℤ → Type 0
IsBetweenZeroAnd n r = ((pos 0 ≤ℤ r) × (r <ℤ n)) ⊎ ((n <ℤ r) × (r ≤ℤ pos 0))

-- what is left of m over a multiple of n, between 0 and n
abbrev pub IsRemainder : ℤ → ℤ → ℤ → Type 0
IsRemainder m n r = (q : ℤ) × (q *ℤ n +ℤ r ≡ m) × IsBetweenZeroAnd n r

-- the multiple of n from which to m a part is left that is smaller than n, and 0 or of the sign of m
abbrev pub IsCutQuotient : ℤ → ℤ → ℤ → Type 0
IsCutQuotient m n q = (r : ℤ) × (q *ℤ n +ℤ r ≡ m) × (nat_abs r < nat_abs n) × (pos 0 ≤ℤ m → pos 0 ≤ℤ r) × (m ≤ℤ pos 0 → r ≤ℤ pos 0)

-- worked rows: of -7 and 3, of 7 and -3, and of both negative, there is no other remainder and no other quotient
abbrev pub RemainderRows : Type 0
RemainderRows =
    ((r : ℤ) → IsRemainder (negsuc 6) (pos 3) r → r ≡ pos 2)
    × ((r : ℤ) → IsRemainder (pos 7) (negsuc 2) r → r ≡ negsuc 1)
    × ((r : ℤ) → IsRemainder (negsuc 6) (negsuc 2) r → r ≡ negsuc 0)

abbrev pub QuotientRows : Type 0
QuotientRows =
    ((q : ℤ) → IsCutQuotient (negsuc 6) (pos 3) q → q ≡ negsuc 1)
    × ((q : ℤ) → IsCutQuotient (pos 7) (negsuc 2) q → q ≡ negsuc 1)
    × ((q : ℤ) → IsCutQuotient (negsuc 6) (negsuc 2) q → q ≡ pos 2)

-- a formula names the cells in the ranges of its references
abbrev pub ReferencedByRanges : Type 0
ReferencedByRanges = (tree : Tree) (cell : Position) → IsReferenced tree cell ↔ ((r : Reference) × Contains (references_of tree) r × IsIn cell (corners_of r))

-- where something is held of all cells of the rectangle, all that a formula needs is known
abbrev pub KnownWhereAllAreHeld : Type 0
KnownWhereAllAreHeld = (sizes : Sizes) (codes : Position → Option ℕ) (tree : Tree)
    → ((cell : Position) → IsTrue (is_inside sizes cell) → IsSome (codes cell)) → IsKnown sizes codes tree
