use Rattle.std.proofs.Common.{◌≡◌, [], length, rules}
use Rattle.formula_syntax.specs.declared.tree.Node as node
use Rattle.formula_syntax.specs.declared.tree.Node.TheFolds.{the_lemmas}
use Rattle.formula_syntax.specs.Rebuilding.{stacked, over_all}
use Rattle.formula_syntax.specs.Shifting.{call_or_lost}
use Rattle.formula_syntax.specs.Tree.{call, tree_of, trees_from, parameters_of}
use Rattle.formula_syntax.proofs.Rebuildings.{call_done}
use Rattle.formula_syntax.proofs.shifting.join_node.Goals as goal

pub returns-in_ok-join_all-in-Call : goal.returns-in_ok-join_all-in-Call
returns-in_ok-join_all-in-Call c =
    let same : tree_of (node.Call c.in-Call.function c.in-Call.parameters) ≡ call c.in-Call.function
    (parameters_of c.in-Call.parameters) = search (rules, the_lemmas) in
    let done : stacked c.join_all.new.done.items [] ≡ over_all (λ trees. call_or_lost c.in-Call.function
    (trees_from trees)) (length c.items.result.now) (stacked c.args.done.now.items []) = search rules in
    call_done (tree_of c.args.node.now) c.in-Call.function c.in-Call.parameters c.items.result.now
    (stacked c.args.done.now.items []) (stacked c.join_all.new.done.items []) (rw c.in-Call.is same) c.items.ensures
    done
