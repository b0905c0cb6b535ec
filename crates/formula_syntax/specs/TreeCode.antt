-- A code for trees, by which a proof tells them apart: a tree in postfix order, and lists of trees with it.
use Rattle.std.specs.Prelude.{◌≡◌, ℤ, pos, Bool, List, [], ◌∷◌, ◌++◌, refl}
use Rattle.std.proofs.Common.{ap, ◌∙◌, append_assoc}
use Rattle.std.specs.Coded.{Coded, code_by, coded_list}
use Rattle.sheet_refs.specs.Ends.{Reference}
use Rattle.std.proofs.lemmas.List.{append-nil}
use Rattle.value_core.specs.declared.value.ErrorKind.{ErrorKind}
use Rattle.value_core.specs.declared.operators.BinaryOp.{BinaryOp}
use Rattle.value_core.specs.declared.operators.PrefixOp.{PrefixOp}
use Rattle.formula_syntax.specs.declared.functions.Function.{Function}
use Rattle.formula_syntax.specs.Tree.{Tree, Trees, number, truth, error as error_tree, reference, prefix, binary, call, no_trees, and_trees}

-- what stands at the top of a tree, without the trees below it
pub data Head : Type 0 where
  number_head : ℤ → Head
  truth_head : Bool → Head
  error_head : ErrorKind → Head
  reference_head : Reference → Head
  prefix_head : PrefixOp → Head
  binary_head : BinaryOp → Head
  call_head : Function → Head
  end_head : Head
  pair_head : Head

-- the heads of a tree, each behind those of the trees below it
abbrev mutual
  pub postfix_of : Tree → List Head
  postfix_of (number n) = number_head n ∷ []
  postfix_of (truth b) = truth_head b ∷ []
  postfix_of (error_tree kind) = error_head kind ∷ []
  postfix_of (reference r) = reference_head r ∷ []
  postfix_of (prefix op operand) = postfix_of operand ++ (prefix_head op ∷ [])
  postfix_of (binary op left right) = postfix_of left ++ (postfix_of right ++ (binary_head op ∷ []))
  postfix_of (call f parameters) = postfix_all parameters ++ (call_head f ∷ [])

  pub postfix_all : Trees → List Head
  postfix_all no_trees = end_head ∷ []
  postfix_all (and_trees tree rest) = postfix_of tree ++ (postfix_all rest ++ (pair_head ∷ []))

-- an operator or a function over what is on top
abbrev pub over_one : (Tree → Tree) → List Tree → List Tree
over_one f [] = []
over_one f (tree ∷ below) = f tree ∷ below

abbrev pub over_two : (Tree → Tree → Tree) → List Tree → List Tree
over_two f [] = []
over_two f (right ∷ []) = []
over_two f (right ∷ left ∷ below) = f left right ∷ below

abbrev pub first_tree : List Tree → Tree
first_tree [] = number (pos 0)
first_tree (tree ∷ below) = tree

abbrev pub first_trees : List Trees → Trees
first_trees [] = no_trees
first_trees (trees ∷ below) = trees

abbrev pub others : {A : Type 0} → List A → List A
others [] = []
others (x ∷ below) = below

-- the trees, and the lists of trees, that heads leave, the last on top
abbrev pub trees_from_heads : List Head → List Tree → List Trees → List Tree
trees_from_heads [] trees lists = trees
trees_from_heads (number_head n ∷ rest) trees lists = trees_from_heads rest (number n ∷ trees) lists
trees_from_heads (truth_head b ∷ rest) trees lists = trees_from_heads rest (truth b ∷ trees) lists
trees_from_heads (error_head kind ∷ rest) trees lists = trees_from_heads rest (error_tree kind ∷ trees) lists
trees_from_heads (reference_head r ∷ rest) trees lists = trees_from_heads rest (reference r ∷ trees) lists
trees_from_heads (prefix_head op ∷ rest) trees lists = trees_from_heads rest (over_one (prefix op) trees) lists
trees_from_heads (binary_head op ∷ rest) trees lists = trees_from_heads rest (over_two (binary op) trees) lists
trees_from_heads (call_head f ∷ rest) trees lists = trees_from_heads rest (call f (first_trees lists) ∷ trees) (others lists)
trees_from_heads (end_head ∷ rest) trees lists = trees_from_heads rest trees (no_trees ∷ lists)
trees_from_heads (pair_head ∷ rest) trees lists = trees_from_heads rest (others trees) (and_trees (first_tree trees) (first_trees lists) ∷ others lists)

mutual
  pub rebuilt_one : (tree : Tree) (rest : List Head) (trees : List Tree) (lists : List Trees)
      → trees_from_heads (postfix_of tree ++ rest) trees lists ≡ trees_from_heads rest (tree ∷ trees) lists
  rebuilt_one (number n) rest trees lists = refl
  rebuilt_one (truth b) rest trees lists = refl
  rebuilt_one (error_tree kind) rest trees lists = refl
  rebuilt_one (reference r) rest trees lists = refl
  rebuilt_one (prefix op operand) rest trees lists =
      rw append_assoc (rebuilt_one operand (prefix_head op ∷ rest) trees lists)
  rebuilt_one (binary op left right) rest trees lists =
      rw (append_assoc, append_assoc)
      (rebuilt_one left (postfix_of right ++ (binary_head op ∷ rest)) trees lists ∙ rebuilt_one right (binary_head op ∷ rest) (left ∷ trees) lists)
  rebuilt_one (call f parameters) rest trees lists =
      rw append_assoc (rebuilt_all parameters (call_head f ∷ rest) trees lists)

  pub rebuilt_all : (all : Trees) (rest : List Head) (trees : List Tree) (lists : List Trees)
      → trees_from_heads (postfix_all all ++ rest) trees lists ≡ trees_from_heads rest trees (all ∷ lists)
  rebuilt_all no_trees rest trees lists = refl
  rebuilt_all (and_trees tree others) rest trees lists =
      rw (append_assoc, append_assoc)
      (rebuilt_one tree (postfix_all others ++ (pair_head ∷ rest)) trees lists ∙ rebuilt_all others (pair_head ∷ rest) (tree ∷ trees) lists)

pub same_tree : (tree : Tree) → first_tree (trees_from_heads (postfix_of tree) [] []) ≡ tree
same_tree tree = rw append-nil at (ap first_tree (rebuilt_one tree [] [] []))

-- a code of trees from one of heads
abbrev pub tree_code : Coded Head → Coded Tree
tree_code head_code = code_by (List Head) (coded_list head_code) postfix_of (λ heads. first_tree (trees_from_heads heads [] [])) same_tree
