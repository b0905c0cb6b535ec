use Rattle.std.proofs.Common.{◌+◌, ◌*◌, take}
use Rattle.formula_syntax.specs.Tree.{tree_of, trees_of, all_references, node_count, all_nodes}
use Rattle.formula_eval.specs.Inputs.{ArePlain}
use Rattle.formula_eval.proofs.ScanLemmas.{HasRest}
use Rattle.formula_eval.proofs.scan.+scan.Given as goal

abbrev pub decreases-scan : goal.decreases-scan
decreases-scan g l = 2 * node_count (tree_of l.root.now)

abbrev pub decreases-scan_all : goal.decreases-scan_all
decreases-scan_all g l = 2 * all_nodes (trees_of l.roots.now) + 1

abbrev pub invariant-scan-loop-node : goal.invariant-scan-loop-node
invariant-scan-loop-node g l = HasRest (g.I.Inputs.sizes l.inputs) (g.I.Inputs.codes l.inputs) (tree_of l.root) (tree_of l.node)

abbrev pub decreases-scan-loop-node : goal.decreases-scan-loop-node
decreases-scan-loop-node g l = node_count (tree_of l.node)

abbrev pub invariant-scan_all-loop-root : goal.invariant-scan_all-loop-root
invariant-scan_all-loop-root g l = ArePlain (g.I.Inputs.sizes l.inputs) (g.I.Inputs.codes l.inputs) (all_references (trees_of (take l.root-index l.roots)))
