-- What holds of references and formulas that are shifted, which is what copies of them are, over definitions alone.
use Rattle.std.specs.Prelude.{◌≡◌, ◌⊎◌, ◌↔◌, ℕ, ℤ, pos, ◌+◌, ◌+ℤ◌, ◌<◌, ◌≤◌, ◌<ℤ◌, Bool, true, false, map, slice_get}
use Rattle.std.specs.Prelude.{All, Contains, IsSome, None, Some}
use Rattle.sheet_refs.specs.Cells.{IsNamed, Position, span_of}
use Rattle.sheet_refs.specs.Ends.{Anchor, IsReference, Reference, corners_of, one_end}
use Rattle.value_core.specs.declared.operators.BinaryOp.{BinaryOp}
use Rattle.value_core.specs.declared.operators.PrefixOp.{PrefixOp}
use Rattle.value_core.specs.declared.value.ErrorKind.TheVariants as kind
use Rattle.formula_syntax.specs.declared.functions.Function.{Function}
use Rattle.formula_syntax.specs.Functions.{shape_of}
use Rattle.formula_syntax.specs.Listing.{ranges_of}
use Rattle.formula_syntax.specs.Shifting.{IsMovedEnd, shifted, shifted_end, shifted_reference}
use Rattle.formula_syntax.specs.Tree.{IsFitting, Tree, Trees, and_trees, binary, call, error, no_trees, number, prefix, reference}
use Rattle.formula_syntax.specs.Tree.{references_of, tree_list, trees_from, truth}
use Rattle.sheet_model.specs.Sheets.{Computed}
use Rattle.sheet_fill.specs.Filling.{copied}

-- a row or a column leaves the names: it has no `$`, and the sum is before the first one or past the last one
abbrev pub PartLeaves : Bool → ℕ → ℤ → ℕ → Type 0
PartLeaves fixed last by part = (fixed ≡ false) × (((pos part +ℤ by) <ℤ pos 1) ⊎ (pos last <ℤ (pos part +ℤ by)))

-- an end does, by its row or by its column
abbrev pub EndLeaves : ℤ → ℤ → Anchor → Type 0
EndLeaves down right end = PartLeaves end.row_fixed 1048576 down end.cell.row ⊎ PartLeaves end.col_fixed 16384 right end.cell.col

-- an end is lost exactly where it leaves the names
abbrev pub EndsAreLostPastTheNames : Type 0
EndsAreLostPastTheNames = (down right : ℤ) (end : Anchor) → shifted_end down right end ≡ None ↔ EndLeaves down right end

-- and a reference exactly where one of its ends does
abbrev pub ReferencesAreLostByTheirEnds : Type 0
ReferencesAreLostByTheirEnds =
    (down right : ℤ) (r : Reference) → IsReference r.head r.tail r.single
    → shifted_reference down right r ≡ None ↔ (EndLeaves down right r.head ⊎ EndLeaves down right r.tail)

-- the row of an end with its `$`, and its column
abbrev pub row_part : Anchor → ℕ × Bool
row_part end = (end.cell.row, end.row_fixed)

abbrev pub col_part : Anchor → ℕ × Bool
col_part end = (end.cell.col, end.col_fixed)

-- two rows, or two columns, put in order, each with its `$`: they are exchanged exactly where the second is the smaller one
pub record ArePutInOrder (first second lower upper : ℕ × Bool) : Type 0 where
  pub kept : first.0 ≤ second.0 → (lower ≡ first) × (upper ≡ second)
  pub exchanged : second.0 < first.0 → (lower ≡ second) × (upper ≡ first)

-- a reference whose ends moved: it names the smallest range with both, and is written in as many ends and with the same `$`s
pub record IsMovedReference (down right : ℤ) (r new : Reference) : Type 0 where
  pub head : Anchor
  pub tail : Anchor
  pub head_moved : IsMovedEnd down right r.head head
  pub tail_moved : IsMovedEnd down right r.tail tail
  pub range_is : corners_of new ≡ span_of head.cell tail.cell
  pub rows : ArePutInOrder (row_part head) (row_part tail) (row_part new.head) (row_part new.tail)
  pub cols : ArePutInOrder (col_part head) (col_part tail) (col_part new.head) (col_part new.tail)
  pub single : new.single ≡ r.single

-- a reference goes exactly there
abbrev pub ReferencesMoveByTheirEnds : Type 0
ReferencesMoveByTheirEnds =
    (down right : ℤ) (r new : Reference) → IsReference r.head r.tail r.single
    → shifted_reference down right r ≡ Some new ↔ IsMovedReference down right r new

-- a row or a column in a copy: one behind a `$` is the same, and another one is as far from the copy as it was from the
-- source
abbrev pub IsAsFar : Bool → ℕ → ℕ → ℕ → ℕ → Type 0
IsAsFar true from to part new = new ≡ part
IsAsFar false from to part new = new + from ≡ part + to

pub record IsEndOfCopy (from to : Position) (end new : Anchor) : Type 0 where
  pub row : IsAsFar end.row_fixed from.row to.row end.cell.row new.cell.row
  pub col : IsAsFar end.col_fixed from.col to.col end.cell.col new.cell.col

-- so are the row and the column of a copied reference to a cell
abbrev pub CopiesKeepDistances : Type 0
CopiesKeepDistances =
    (from to : Position) (end new : Anchor) → IsNamed end.cell.row end.cell.col
    → copied from to (Computed (reference (one_end end))) ≡ Computed (reference (one_end new)) → IsEndOfCopy from to end new

-- no reference of a formula is lost
abbrev pub LosesNone : ℤ → ℤ → Tree → Type 0
LosesNone down right tree = All (λ r. IsSome (shifted_reference down right r)) (references_of tree)

-- a formula with A1 in place of each reference, which is all of it but its references
abbrev pub reference_to_a1 : Reference
reference_to_a1 = one_end (record { cell = record { row = 1; col = 1 }; col_fixed = false; row_fixed = false })

abbrev mutual
  pub without_references : Tree → Tree
  without_references (number n) = number n
  without_references (truth b) = truth b
  without_references (error k) = error k
  without_references (reference r) = reference reference_to_a1
  without_references (prefix op operand) = prefix op (without_references operand)
  without_references (binary op first second) = binary op (without_references first) (without_references second)
  without_references (call f parameters) = call f (all_without parameters)

  pub all_without : Trees → Trees
  all_without no_trees = no_trees
  all_without (and_trees tree rest) = and_trees (without_references tree) (all_without rest)

-- a formula whose references moved, each in its place and also in calls within calls, and which is else the same
pub record IsMovedFormula (down right : ℤ) (tree new : Tree) : Type 0 where
  pub references : map (shifted_reference down right) (references_of tree) ≡ map Some (references_of new)
  pub others : without_references new ≡ without_references tree

-- so is a shifted formula exactly where no reference is lost
abbrev pub FormulasMoveTheirReferences : Type 0
FormulasMoveTheirReferences =
    (down right : ℤ) (tree : Tree) → IsFitting tree → LosesNone down right tree ↔ IsMovedFormula down right tree (shifted down right tree)

-- and where it loses none again, it has the ranges of the sum
abbrev pub ShiftedFormulasAdd : Type 0
ShiftedFormulasAdd =
    (down right further across : ℤ) (tree : Tree) → IsFitting tree → LosesNone down right tree
    → LosesNone further across (shifted down right tree)
    → ranges_of (shifted further across (shifted down right tree)) ≡ ranges_of (shifted (down +ℤ further) (right +ℤ across) tree)

-- a reference that is lost is `#REF!`
abbrev pub LostReferencesAreErrors : Type 0
LostReferencesAreErrors =
    (down right : ℤ) (r : Reference) → shifted_reference down right r ≡ None → shifted down right (reference r) ≡ error kind.Ref

-- a call loses a reference in a place where one has to stand
pub record LosesPlace (down right : ℤ) (f : Function) (parameters : Trees) : Type 0 where
  pub place : ℕ
  pub needed : Contains (shape_of f).references place
  pub r : Reference
  pub stands : slice_get (tree_list parameters) place ≡ Some (reference r)
  pub lost : shifted_reference down right r ≡ None

-- such a call is `#REF!` as a whole, and each other one stays a call, with each parameter shifted
abbrev pub CallsAreLostByTheirPlaces : Type 0
CallsAreLostByTheirPlaces =
    (down right : ℤ) (f : Function) (parameters : Trees) → LosesPlace down right f parameters
    → shifted down right (call f parameters) ≡ error kind.Ref

abbrev pub OtherCallsStay : Type 0
OtherCallsStay =
    (down right : ℤ) (f : Function) (parameters : Trees) → IsFitting (call f parameters) → ¬ LosesPlace down right f parameters
    → shifted down right (call f parameters) ≡ call f (trees_from (map (shifted down right) (tree_list parameters)))

-- an operator stays, with its operands shifted
abbrev pub OperatorsStay : Type 0
OperatorsStay =
    (down right : ℤ) (sign : PrefixOp) (op : BinaryOp) (first second : Tree)
    → (shifted down right (prefix sign first) ≡ prefix sign (shifted down right first))
    × (shifted down right (binary op first second) ≡ binary op (shifted down right first) (shifted down right second))
