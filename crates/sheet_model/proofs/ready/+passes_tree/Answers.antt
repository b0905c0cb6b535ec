use Rattle.std.proofs.Common.{◌≡◌, ◌≤◌, rules, take}
use Rattle.formula_syntax.specs.Tree.{reference, binary, call, tree_of, trees_of, parameters_of, references_of, all_references, node_count, all_nodes}
use Rattle.formula_syntax.specs.declared.tree.Node as node
use Rattle.formula_syntax.specs.declared.tree.Node.TheFolds.{the_lemmas}
use Rattle.formula_eval.proofs.NodeLemmas.{references_more, count_among, take-all}
use Rattle.sheet_model.specs.Words.{states_of}
use Rattle.sheet_model.proofs.ReadyLemmas.{plain_both, rest_init, rest_plain, rest_right}
use Rattle.sheet_model.proofs.ready.+passes_tree.Goals as goal

pub passes_tree-loop-node-init : goal.passes_tree-loop-node-init
passes_tree-loop-node-init t c = rest_init c.args.sizes (states_of c.args.words.now) (tree_of c.args.root.now)

pub passes_tree-returns-in-Reference : goal.passes_tree-returns-in-Reference
passes_tree-returns-in-Reference t c = λ yes.
    let same : tree_of (node.Reference c.in-Reference.r) ≡ reference c.in-Reference.r = search (rules, the_lemmas) in
    let has = rw (c.in-Reference.is, same) at c.loop-node.invariant in
    rest_plain c.args.sizes (states_of c.args.words.now) (tree_of c.args.root.now) (reference c.in-Reference.r) has
    (c.passes_reference.ensures yes)

pub passes_tree-loop-node-preserved : goal.passes_tree-loop-node-preserved
passes_tree-loop-node-preserved t c =
    let same : tree_of (node.Binary c.in-Binary.field-0 c.in-Binary.left c.in-Binary.right) ≡ binary c.in-Binary.field-0
    (tree_of c.in-Binary.left.value) (tree_of c.in-Binary.right.value) = search (rules, the_lemmas) in
    let has = rw (c.in-Binary.is, same) at c.loop-node.invariant in
    let plain = rw c.deref.ensures at (c.passes_tree.ensures (search rules)) in
    rw c.deref-node-in-Binary.ensures (rest_right c.args.sizes (states_of c.args.words.now) (tree_of c.args.root.now)
    (tree_of c.in-Binary.left.value) (tree_of c.in-Binary.right.value) c.in-Binary.field-0 has plain)

pub passes_tree-returns-in-Call : goal.passes_tree-returns-in-Call
passes_tree-returns-in-Call t c = λ yes.
    let same : tree_of (node.Call c.in-Call.field-0 c.in-Call.parameters) ≡ call c.in-Call.field-0
    (parameters_of c.in-Call.parameters) = search (rules, the_lemmas) in
    let has = rw (c.in-Call.is, same) at c.loop-node.invariant in
    rest_plain c.args.sizes (states_of c.args.words.now) (tree_of c.args.root.now) (call c.in-Call.field-0 (parameters_of c.in-Call.parameters)) has
    (rw c.items.ensures at (c.passes_all.ensures yes))

pub passes_all-passes_tree-requires : goal.passes_all-passes_tree-requires
passes_all-passes_tree-requires t c =
    let smaller : node_count (tree_of c.root-item.result) ≤ all_nodes (trees_of c.args.roots.now) =
    count_among c.args.roots.now c.loop-root.root-index c.root-item.result c.loop-root-test.true c.root-item.is in
    search rules

pub passes_all-loop-root-preserved : goal.passes_all-loop-root-preserved
passes_all-loop-root-preserved t c =
    let roots = c.args.roots.now in
    let i = c.loop-root.root-index in
    let more = references_more roots i c.root-item.result c.loop-root-test.true c.root-item.is in
    rw more (plain_both c.args.sizes (states_of c.args.words.now) (all_references (trees_of (take i roots)))
    (references_of (tree_of c.root-item.result)) c.loop-root.invariant (c.passes_tree.ensures (search rules)))

pub passes_all-returns : goal.passes_all-returns
passes_all-returns t c = λ yes.
    let all = take-all c.args.roots.now c.loop-root.root-index c.loop-root-test.false in
    rw all at c.loop-root.invariant
