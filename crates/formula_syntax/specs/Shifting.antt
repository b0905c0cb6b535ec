-- How a formula is shifted: where its references go when it is copied so many rows down and so many columns to the right.
use Rattle.std.specs.Prelude.{◌≡◌, ◌↔◌, ◌≤◌, length, ℕ, ℤ, pos, ◌+ℤ◌, int_le, nat_abs, Bool, true, false, ◌&&◌}
use Rattle.std.specs.Prelude.{if◌then◌else◌, Option, Some, None, option_map, option_and_then}
use Rattle.sheet_refs.specs.Cells.{IsNamed}
use Rattle.sheet_refs.specs.Ends.{Anchor, Reference, one_end, two_ends, corners_of}
use Rattle.value_core.specs.declared.value.ErrorKind.TheVariants as kind
use Rattle.formula_syntax.specs.declared.functions.Function.{Function}
use Rattle.formula_syntax.specs.declared.edition.Edition.{Edition}
use Rattle.formula_syntax.specs.Editions.{IsWithin}
use Rattle.formula_syntax.specs.Functions.{shape_of}
use Rattle.formula_syntax.specs.Reading.{references_at}
use Rattle.formula_syntax.specs.Tree.{Tree, Trees, number, truth, error, reference, prefix, binary, call, no_trees}
use Rattle.formula_syntax.specs.Tree.{and_trees, tree_list, references_of, node_count, IsFitting}
use Rattle.formula_syntax.specs.Printing.{plain}
use Rattle.formula_syntax.specs.Spelling.{IsTooDeep}

-- a whole number as a row or a column, where it is between 1 and the last one
abbrev pub if_named : ℕ → ℤ → Option ℕ
if_named last place = if int_le (pos 1) place && int_le place (pos last) then Some (nat_abs place) else None

-- a row or a column: a fixed one stays
abbrev pub shifted_part : Bool → ℕ → ℤ → ℕ → Option ℕ
shifted_part true last by part = Some part
shifted_part false last by part = if_named last (pos part +ℤ by)

-- an end at another cell, with the same `$`
abbrev pub at_cell : Anchor → ℕ → ℕ → Anchor
at_cell a row col = record { cell = record { row = row; col = col }; col_fixed = a.col_fixed; row_fixed = a.row_fixed }

-- an end, where both of its parts stay within the names
abbrev pub shifted_end : ℤ → ℤ → Anchor → Option Anchor
shifted_end down right a =
    option_and_then (λ row. option_map (at_cell a row) (shifted_part a.col_fixed 16384 right a.cell.col)) (shifted_part a.row_fixed 1048576 down a.cell.row)

-- a reference, where its ends stay within the names; they are put in order again
abbrev pub shifted_ends : ℤ → ℤ → Bool → Anchor → Anchor → Option Reference
shifted_ends down right true head tail = option_map one_end (shifted_end down right head)
shifted_ends down right false head tail = option_and_then (λ first. option_map (two_ends first) (shifted_end down right tail)) (shifted_end down right head)

abbrev pub shifted_reference : ℤ → ℤ → Reference → Option Reference
shifted_reference down right r = shifted_ends down right r.single r.head r.tail

-- a reference that has left the names is the error `#REF!`
abbrev pub or_lost : Option Reference → Tree
or_lost (Some r) = reference r
or_lost None = error kind.Ref

-- and so is a call in which it stood where a reference has to stand
abbrev pub call_or_lost : Function → Trees → Tree
call_or_lost f parameters = if references_at (shape_of f).references (tree_list parameters) then call f parameters else error kind.Ref

-- a tree: its references are shifted, and all else stays
abbrev mutual
  pub shifted : ℤ → ℤ → Tree → Tree
  shifted down right (number n) = number n
  shifted down right (truth b) = truth b
  shifted down right (error k) = error k
  shifted down right (reference r) = or_lost (shifted_reference down right r)
  shifted down right (prefix op operand) = prefix op (shifted down right operand)
  shifted down right (binary op first second) = binary op (shifted down right first) (shifted down right second)
  shifted down right (call f parameters) = call_or_lost f (all_shifted down right parameters)

  pub all_shifted : ℤ → ℤ → Trees → Trees
  all_shifted down right no_trees = no_trees
  all_shifted down right (and_trees tree rest) = and_trees (shifted down right tree) (all_shifted down right rest)

-- one row or column, or one end, moved: a fixed part is the same, another one is the sum
abbrev pub IsMovedPart : Bool → ℤ → ℕ → ℕ → Type 0
IsMovedPart true by part new = new ≡ part
IsMovedPart false by part new = pos new ≡ pos part +ℤ by

pub record IsMovedEnd (down right : ℤ) (end new : Anchor) : Type 0 where
  pub row : IsMovedPart end.row_fixed down end.cell.row new.cell.row
  pub col : IsMovedPart end.col_fixed right end.cell.col new.cell.col
  pub row_fixed : new.row_fixed ≡ end.row_fixed
  pub col_fixed : new.col_fixed ≡ end.col_fixed
  pub named : IsNamed new.cell.row new.cell.col

-- an end of a reference goes exactly there
abbrev pub EndsMove : Type 0
EndsMove = (down right : ℤ) (end new : Anchor) → IsNamed end.cell.row end.cell.col → (shifted_end down right end ≡ Some new ↔ IsMovedEnd down right end new)

-- a formula that is shifted by nothing is the same
abbrev pub StaysByNothing : Type 0
StaysByNothing = (tree : Tree) → IsFitting tree → shifted (pos 0) (pos 0) tree ≡ tree

-- a shift brings no nodes, no references and no depth, and leaves each call with parameters that fit
abbrev pub BringsNoNodes : Type 0
BringsNoNodes = (down right : ℤ) (tree : Tree) → node_count (shifted down right tree) ≤ node_count tree

abbrev pub BringsNoReferences : Type 0
BringsNoReferences = (down right : ℤ) (tree : Tree) → length (references_of (shifted down right tree)) ≤ length (references_of tree)

abbrev pub BringsNoDepth : Type 0
BringsNoDepth = (down right : ℤ) (tree : Tree) → IsFitting tree → IsTooDeep (plain (shifted down right tree)) → IsTooDeep (plain tree)

abbrev pub StaysFitting : Type 0
StaysFitting = (down right : ℤ) (tree : Tree) → IsFitting tree → IsFitting (shifted down right tree)

-- and it keeps to an edition
abbrev pub StaysWithin : Type 0
StaysWithin = (edition : Edition) (down right : ℤ) (tree : Tree) → IsWithin edition tree → IsWithin edition (shifted down right tree)

-- a reference shifted twice has the range of the sum, where neither step leaves the names
abbrev pub ShiftsAdd : Type 0
ShiftsAdd =
    (down right further across : ℤ) (first second third : Reference)
    → shifted_reference down right first ≡ Some second → shifted_reference further across second ≡ Some third
    → (sum : Reference) × (shifted_reference (down +ℤ further) (right +ℤ across) first ≡ Some sum) × (corners_of sum ≡ corners_of third)
