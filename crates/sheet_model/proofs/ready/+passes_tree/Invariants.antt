use Rattle.std.proofs.Common.{◌+◌, ◌*◌, take}
use Rattle.formula_syntax.specs.Tree.{tree_of, trees_of, all_references, node_count, all_nodes}
use Rattle.sheet_model.specs.Walks.{ArePlainReferences}
use Rattle.sheet_model.specs.Words.{states_of}
use Rattle.sheet_model.proofs.ReadyLemmas.{RestPlain}
use Rattle.sheet_model.proofs.ready.+passes_tree.Given as goal

abbrev pub decreases-passes_tree : goal.decreases-passes_tree
decreases-passes_tree l = 2 * node_count (tree_of l.root.now)

abbrev pub decreases-passes_all : goal.decreases-passes_all
decreases-passes_all l = 2 * all_nodes (trees_of l.roots.now) + 1

abbrev pub invariant-passes_tree-loop-node : goal.invariant-passes_tree-loop-node
invariant-passes_tree-loop-node l = RestPlain l.sizes (states_of l.words) (tree_of l.root) (tree_of l.node)

abbrev pub decreases-passes_tree-loop-node : goal.decreases-passes_tree-loop-node
decreases-passes_tree-loop-node l = node_count (tree_of l.node)

abbrev pub invariant-passes_all-loop-root : goal.invariant-passes_all-loop-root
invariant-passes_all-loop-root l = ArePlainReferences l.sizes (states_of l.words) (all_references (trees_of (take l.root-index l.roots)))
