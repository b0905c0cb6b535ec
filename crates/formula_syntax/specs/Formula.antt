-- What every formula keeps.
use Rattle.std.specs.Prelude.{◌≤◌, length}
use Rattle.formula_syntax.specs.Tree.{Tree, references_of, node_count, IsFitting}

-- a tree within the limits, in which each call fits its function
pub record IsFormula (tree : Tree) : Type 0 where
  pub few_nodes : node_count tree ≤ 8192
  pub few_references : length (references_of tree) ≤ 255
  pub fitting : IsFitting tree
