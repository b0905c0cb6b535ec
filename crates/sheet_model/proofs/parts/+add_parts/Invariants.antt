use Rattle.std.proofs.Common.{◌+◌, ◌*◌, take}
use Rattle.formula_syntax.specs.Tree.{tree_of, trees_of, all_references, node_count, all_nodes}
use Rattle.sheet_model.specs.Parts.{AddsParts}
use Rattle.sheet_model.proofs.PartLemmas.{RestAdded}
use Rattle.sheet_model.proofs.parts.+add_parts.Given as goal

abbrev pub decreases-add_parts : goal.decreases-add_parts
decreases-add_parts l = 2 * node_count (tree_of l.root.now)

abbrev pub decreases-add_all : goal.decreases-add_all
decreases-add_all l = 2 * all_nodes (trees_of l.roots.now) + 1

abbrev pub invariant-add_parts-loop-node : goal.invariant-add_parts-loop-node
invariant-add_parts-loop-node l = RestAdded l.sizes (tree_of l.root) (tree_of l.node) l.initial.parts.items l.parts.items

abbrev pub decreases-add_parts-loop-node : goal.decreases-add_parts-loop-node
decreases-add_parts-loop-node l = node_count (tree_of l.node)

abbrev pub invariant-add_all-loop-root : goal.invariant-add_all-loop-root
invariant-add_all-loop-root l = AddsParts l.sizes (all_references (trees_of (take l.root-index l.roots))) l.initial.parts.items l.parts.items
