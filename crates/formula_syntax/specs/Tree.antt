-- A formula as a tree.
use Rattle.std.specs.Prelude.{◌≡◌, ◌≢◌, ℕ, ℤ, pos, ◌+◌, ◌≤◌, Bool, List, [], ◌∷◌, ◌++◌, length, IfSome, All, map, slice_get}
use Rattle.sheet_refs.specs.Ends.{Reference, IsReference}
use Rattle.value_core.specs.declared.value.ErrorKind.{ErrorKind}
use Rattle.value_core.specs.declared.value.ErrorKind.TheVariants.{Circ}
use Rattle.value_core.specs.declared.operators.BinaryOp.{BinaryOp}
use Rattle.value_core.specs.declared.operators.PrefixOp.{PrefixOp}
use Rattle.formula_syntax.specs.declared.functions.Function.{Function}
use Rattle.formula_syntax.specs.Functions.{Shape, shape_of}
use Rattle.formula_syntax.specs.declared.tree.Node.{Node, fold-Node}
use Rattle.formula_syntax.specs.declared.tree.Node.TheOpen.{Node-F}
use Rattle.formula_syntax.specs.declared.tree.Nodes.{Nodes, fold-Nodes}
use Rattle.formula_syntax.specs.declared.tree.Node.TheOpen.{Nodes-F}

-- a constant, a reference, an operator before a tree or between two trees, or a function of a list of trees
mutual
  pub data Tree : Type 0 where
    number : ℤ → Tree
    truth : Bool → Tree
    error : ErrorKind → Tree
    reference : Reference → Tree
    prefix : PrefixOp → Tree → Tree
    binary : BinaryOp → Tree → Tree → Tree
    call : Function → Trees → Tree

  pub data Trees : Type 0 where
    no_trees : Trees
    and_trees : Tree → Trees → Trees

-- a list of trees as trees, and back
abbrev pub trees_from : List Tree → Trees
trees_from [] = no_trees
trees_from (tree ∷ rest) = and_trees tree (trees_from rest)

abbrev pub tree_list : Trees → List Tree
tree_list no_trees = []
tree_list (and_trees tree rest) = tree ∷ tree_list rest

-- one level of nodes in memory, the trees below it seen as such already
abbrev pub tree_step : Node-F Tree Trees → Tree
tree_step (Node-F.Number n) = number n
tree_step (Node-F.Truth b) = truth b
tree_step (Node-F.Error kind) = error kind
tree_step (Node-F.Reference r) = reference r
tree_step (Node-F.Prefix op operand) = prefix op operand.value
tree_step (Node-F.Binary op left right) = binary op left.value right.value
tree_step (Node-F.Call f parameters) = call f parameters

abbrev pub trees_step : Nodes-F Tree Trees → Trees
trees_step parameters = trees_from parameters.nodes.value.items

-- the tree that nodes in memory make
abbrev pub tree_of : Node → Tree
tree_of = fold-Node Tree Trees tree_step trees_step

-- the trees of a call's parameters
abbrev pub parameters_of : Nodes → Trees
parameters_of = fold-Nodes Tree Trees tree_step trees_step

-- the trees of a list of nodes
abbrev pub trees_of : List Node → Trees
trees_of nodes = trees_from (map tree_of nodes)

-- the references of a tree as they are written, from left to right
abbrev mutual
  pub references_of : Tree → List Reference
  references_of (number n) = []
  references_of (truth b) = []
  references_of (error kind) = []
  references_of (reference r) = r ∷ []
  references_of (prefix op operand) = references_of operand
  references_of (binary op left right) = references_of left ++ references_of right
  references_of (call f parameters) = all_references parameters

  pub all_references : Trees → List Reference
  all_references no_trees = []
  all_references (and_trees tree rest) = references_of tree ++ all_references rest

-- how many nodes a tree has
abbrev mutual
  pub node_count : Tree → ℕ
  node_count (number n) = 1
  node_count (truth b) = 1
  node_count (error kind) = 1
  node_count (reference r) = 1
  node_count (prefix op operand) = 1 + node_count operand
  node_count (binary op left right) = 1 + node_count left + node_count right
  node_count (call f parameters) = 1 + all_nodes parameters

  pub all_nodes : Trees → ℕ
  all_nodes no_trees = 0
  all_nodes (and_trees tree rest) = node_count tree + all_nodes rest

-- whether a tree is a reference
abbrev pub IsReferenceTree : Tree → Type 0
IsReferenceTree tree = (r : Reference) × (tree ≡ reference r)

-- a parameter, from 0, is a reference where it is written
abbrev pub HasReferenceAt : List Tree → ℕ → Type 0
HasReferenceAt parameters place = IfSome (slice_get parameters place) IsReferenceTree

-- the parameters are as the function's line of the table says
pub record Fits (shape : Shape) (parameters : List Tree) : Type 0 where
  pub least : shape.least ≤ length parameters
  pub most : IfSome shape.most (λ most. length parameters ≤ most)
  pub references : All (HasReferenceAt parameters) shape.references

-- a number that digits write, up to 2^53 - 1
abbrev pub IsCount : ℤ → Type 0
IsCount n = (count : ℕ) × (count ≤ 9007199254740991) × (n ≡ pos count)

-- each call of a tree has parameters that fit its function, and no error is a circular reference
abbrev mutual
  pub IsFitting : Tree → Type 0
  IsFitting (number n) = IsCount n
  IsFitting (truth b) = Unit {0}
  IsFitting (error kind) = kind ≢ Circ
  IsFitting (reference r) = IsReference r.head r.tail r.single
  IsFitting (prefix op operand) = IsFitting operand
  IsFitting (binary op left right) = IsFitting left × IsFitting right
  IsFitting (call f parameters) = Fits (shape_of f) (tree_list parameters) × AreFitting parameters

  pub AreFitting : Trees → Type 0
  AreFitting no_trees = Unit {0}
  AreFitting (and_trees tree rest) = IsFitting tree × AreFitting rest
