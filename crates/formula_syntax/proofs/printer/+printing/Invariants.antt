use Rattle.std.proofs.Common.{◌≡◌, ◌≤◌, ◌+◌, ◌*◌, length}
use Rattle.formula_syntax.specs.Left.{below, level_below}
use Rattle.formula_syntax.specs.Printing.{others_text}
use Rattle.formula_syntax.specs.Tree.{all_nodes, node_count, tree_of, trees_of}
use Rattle.text_pieces.proofs.PieceLemmas.{Completes}
use Rattle.formula_syntax.proofs.LeftLemmas.{IsGoneThrough}
use Rattle.formula_syntax.proofs.printer.+printing.Given as goal

-- 16,384 for each node; what is left below that tells the calls for one tree apart, and the halves of a chain
abbrev pub decreases-send_tree : goal.decreases-send_tree
decreases-send_tree g l = 16384 * node_count (tree_of l.root.now) + 8199

abbrev pub decreases-send_front : goal.decreases-send_front
decreases-send_front g l = 16384 * node_count (tree_of l.root.now) + 8198

abbrev pub decreases-send_back : goal.decreases-send_back
decreases-send_back g l = 16384 * node_count (tree_of l.root.now) + l.depth + 4

abbrev pub decreases-send_closing : goal.decreases-send_closing
decreases-send_closing g l = 16384 * node_count (tree_of l.node.now) + 4

abbrev pub decreases-send_right : goal.decreases-send_right
decreases-send_right g l = 16384 * node_count (tree_of l.node.now) + 3

abbrev pub decreases-send_leaf : goal.decreases-send_leaf
decreases-send_leaf g l = 16384 * node_count (tree_of l.node.now) + 4

abbrev pub decreases-send_call : goal.decreases-send_call
decreases-send_call g l = 16384 * all_nodes (trees_of l.nodes.now) + 8202

abbrev pub decreases-send_parameters : goal.decreases-send_parameters
decreases-send_parameters g l = 16384 * all_nodes (trees_of l.nodes.now) + 8201

abbrev pub decreases-send_others : goal.decreases-send_others
decreases-send_others g l = 16384 * all_nodes (trees_of l.nodes.now) + 8200

abbrev pub invariant-send_front-loop-left : goal.invariant-send_front-loop-left
invariant-send_front-loop-left g l = record {
  callable : goal.F-IsAlwaysCallable g l.to;
  here : tree_of l.node ≡ below l.depth (tree_of l.root);
  at : l.at ≡ level_below l.depth l.level (tree_of l.root);
  few : l.depth + node_count (tree_of l.node) ≤ node_count (tree_of l.root);
  gone : IsGoneThrough g.F.FnMut l.fn.to l.level (tree_of l.root) l.depth l.to;
}

abbrev pub decreases-send_front-loop-left : goal.decreases-send_front-loop-left
decreases-send_front-loop-left g l = node_count (tree_of l.node)

abbrev pub invariant-send_others-loop-first : goal.invariant-send_others-loop-first
invariant-send_others-loop-first g l = record {
  callable : goal.F-IsAlwaysCallable g l.to;
  fewer : all_nodes (trees_of l.left) ≤ all_nodes (trees_of l.nodes);
  completes : Completes g.F.FnMut l.fn.to (others_text (trees_of l.nodes)) l.to (others_text (trees_of l.left));
}

abbrev pub decreases-send_others-loop-first : goal.decreases-send_others-loop-first
decreases-send_others-loop-first g l = length l.left
