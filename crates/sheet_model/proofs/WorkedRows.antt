-- Values of small sheets, worked out by hand and computed by the definitions.
use Rattle.std.proofs.Common.{◌≡◌, ℕ, pos, true, false, List, [], ◌∷◌, map, refl}
use Rattle.sheet_refs.specs.Cells.{Position}
use Rattle.sheet_refs.specs.Ends.{Anchor, one_end, two_ends}
use Rattle.value_core.specs.declared.operators.BinaryOp.TheVariants.{Add}
use Rattle.value_core.specs.declared.value.ErrorKind.TheVariants.{Circ, Num}
use Rattle.value_core.specs.declared.value.Value.{Value}
use Rattle.value_core.specs.declared.value.Value.TheVariants.{Empty, Number, Truth, Error}
use Rattle.formula_syntax.specs.declared.edition.Edition.TheVariants.{One}
use Rattle.formula_syntax.specs.declared.functions.Function.TheVariants.{Sum, If, Iserror}
use Rattle.formula_syntax.specs.Tree.{Tree, number, truth, reference, binary, call, no_trees, and_trees}
use Rattle.sheet_model.specs.Budget.{ev}
use Rattle.sheet_model.specs.Sheets.{SheetValue, ContentValue, Constant, Computed}
use Rattle.sheet_model.specs.Values.{value_of}

-- a sheet of one row of four cells, and the values of its cells
abbrev row_of : List ContentValue → SheetValue
row_of contents = record { edition = One; sizes = record { rows = 1; cols = 4 }; contents = contents; labels = [] }

abbrev at : ℕ → Position
at col = record { row = 1; col = col }

abbrev values : List ContentValue → List Value
values contents = map (λ col. value_of (row_of contents) (at col)) (1 ∷ 2 ∷ 3 ∷ 4 ∷ [])

-- an end in the first row without a `$`, a reference to one cell and one to several
abbrev end : ℕ → Anchor
end col = record { cell = at col; col_fixed = false; row_fixed = false }

abbrev one : ℕ → Tree
one col = reference (one_end (end col))

abbrev several : ℕ → ℕ → Tree
several first last = reference (two_ends (end first) (end last))

abbrev plus : Tree → Tree → ContentValue
plus left right = Computed (binary Add left right)

-- =B1+C1,=A1+2,4,=D1: two cells in a cycle, a number, and a cell that refers to itself
cycles : values (plus (one 2) (one 3) ∷ plus (one 1) (number (pos 2)) ∷ Constant (Number (pos 4)) ∷ Computed (one 4)
    ∷ []) ≡ (Error Circ ∷ Error Circ ∷ Number (pos 4) ∷ Error Circ ∷ [])
unfolding value_of ev
cycles = refl

-- =IF(TRUE;1;A1),=ISERROR(A1),7,=C1: a branch that isn't selected and ISERROR hide no cycle
hidden : values (Computed (call If (and_trees (truth true) (and_trees (number (pos 1)) (and_trees (one 1) no_trees))))
    ∷ Computed (call Iserror (and_trees (one 1) no_trees)) ∷ Constant (Number (pos 7)) ∷ Computed (one 3)
    ∷ []) ≡ (Error Circ ∷ Error Circ ∷ Number (pos 7) ∷ Number (pos 7) ∷ [])
unfolding value_of ev
hidden = refl

-- =SUM(B1:D1),9007199254740991,=SUM(B1:B1;1),: an error of a range is handed on
sums : values (Computed (call Sum (and_trees (several 2 4) no_trees)) ∷ Constant (Number (pos 9007199254740991))
    ∷ Computed (call Sum (and_trees (several 2 2) (and_trees (number (pos 1)) no_trees))) ∷ Constant Empty
    ∷ []) ≡ (Error Num ∷ Number (pos 9007199254740991) ∷ Error Num ∷ Empty ∷ [])
unfolding value_of ev
sums = refl

-- =SUM(B1:E1),1,TRUE,=Z1: cells past the rectangle and empty cells count as nothing
past : values (Computed (call Sum (and_trees (several 2 5) no_trees)) ∷ Constant (Number (pos 1))
    ∷ Constant (Truth true) ∷ Computed (one 26) ∷ []) ≡ (Number (pos 1) ∷ Number (pos 1) ∷ Truth true ∷ Number (pos 0)
    ∷ [])
unfolding value_of ev
past = refl
