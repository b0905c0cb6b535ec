-- The ranges of a formula: each once, in the order in which they first stand.
use Rattle.std.specs.Prelude.{◌≡◌, ℕ, ◌+◌, ◌*◌, ◌<◌, ◌≤◌, List, [], ◌∷◌, ◌++◌, Contains, map}
use Rattle.std.specs.Borrow.{Bor}
use Rattle.sheet_refs.specs.Cells.{Corners}
use Rattle.sheet_refs.specs.Ends.{Reference, corners_of}
use Rattle.formula_syntax.specs.declared.tree.Node.{Node}
use Rattle.formula_syntax.specs.Tree.{Tree, Trees, number, truth, error, reference, prefix, binary, call, no_trees, and_trees}
use Rattle.formula_syntax.specs.Tree.{references_of, all_references, trees_of}

-- the ranges of a list, each once in the order in which it first stands: one that stood before adds nothing
pub data IsOnceEach : List Corners → List Corners → Type 0 where
  nothing : IsOnceEach [] []
  again : (all ranges longer : List Corners) (range : Corners) → IsOnceEach all ranges → Contains all range
      → longer ≡ all ++ range ∷ [] → IsOnceEach longer ranges
  first : (all ranges longer more : List Corners) (range : Corners) → IsOnceEach all ranges → ¬ Contains all range
      → longer ≡ all ++ range ∷ [] → more ≡ ranges ++ range ∷ [] → IsOnceEach longer more

-- where the first cell of a range stands, row by row
abbrev pub head_place : Corners → ℕ
head_place range = range.head.row * 65536 + range.head.col

-- the ranges that a tree names, as they are written
abbrev pub ranges_of : Tree → List Corners
ranges_of tree = map corners_of (references_of tree)

-- how many steps a walk over a tree takes, at most
abbrev mutual
  pub visit_count : Tree → ℕ
  visit_count (number n) = 1
  visit_count (truth b) = 1
  visit_count (error kind) = 1
  visit_count (reference r) = 1
  visit_count (prefix op operand) = 4 + visit_count operand
  visit_count (binary op left right) = 7 + visit_count left + visit_count right
  visit_count (call f parameters) = 4 + all_visits parameters

  pub all_visits : Trees → ℕ
  all_visits no_trees = 0
  all_visits (and_trees tree rest) = 2 + visit_count tree + all_visits rest

-- the references of the nodes that are left, of which the last list comes first; and a bound on the lists to come
abbrev pub references_left : List (Bor (List Node)) → List Reference
references_left [] = []
references_left (nodes ∷ rest) = references_left rest ++ all_references (trees_of nodes.now)

abbrev pub lists_left : List (Bor (List Node)) → ℕ
lists_left [] = 0
lists_left (nodes ∷ rest) = 1 + all_visits (trees_of nodes.now) + lists_left rest

-- nodes are left for later behind those that were, where there are any
pub record AreLeft (nodes : List Node) (left next : List (Bor (List Node))) : Type 0 where
  pub added : List (Bor (List Node))
  pub kept : next ≡ left ++ added
  pub whole : references_left added ≡ all_references (trees_of nodes)
  pub few : lists_left added ≤ 1 + all_visits (trees_of nodes)

-- some references are listed up to a place, and the others are left as nodes of fewer lists
pub record Lists (own : List Reference) (count : ℕ) (left next : List (Bor (List Node))) (ranges more : List Corners) : Type 0 where
  pub said : List Reference
  pub added : List (Bor (List Node))
  pub kept : next ≡ left ++ added
  pub whole : own ≡ said ++ references_left added
  pub fewer : lists_left added < count
  pub listed : (all : List Corners) → IsOnceEach all ranges → IsOnceEach (all ++ map corners_of said) more
