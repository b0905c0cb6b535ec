use Rattle.std.proofs.Common.{◌≡◌, ◌≤◌, rules, take}
use Rattle.std.proofs.lemmas.Result.{on_ok_weaker}
use Rattle.formula_syntax.specs.Tree.{reference, binary, call, tree_of, trees_of, parameters_of, references_of, all_references, node_count, all_nodes}
use Rattle.formula_syntax.specs.declared.tree.Node as node
use Rattle.formula_syntax.specs.declared.tree.Node.TheFolds.{the_lemmas}
use Rattle.formula_eval.proofs.NodeLemmas.{references_more, count_among, take-all}
use Rattle.sheet_model.specs.Parts.{AddsRange, AddsParts}
use Rattle.sheet_model.proofs.PartLemmas.{adds_append, adds_one, rest_init, rest_added, rest_right}
use Rattle.sheet_model.proofs.parts.+add_parts.Goals as goal

pub add_parts-loop-node-init : goal.add_parts-loop-node-init
add_parts-loop-node-init t c = rest_init c.args.sizes (tree_of c.args.root.now) c.args.parts.now.items

pub add_parts-returns-in-Reference : goal.add_parts-returns-in-Reference
add_parts-returns-in-Reference t c =
    let whole = tree_of c.args.root.now in
    let same : tree_of (node.Reference c.in-Reference.r) ≡ reference c.in-Reference.r = search (rules, the_lemmas) in
    let has = rw (c.in-Reference.is, same) at c.loop-node.invariant in
    on_ok_weaker _ (λ (adds : AddsRange c.args.sizes c.range.result c.loop-node.parts.items c.add_part.new.parts.items).
    rest_added c.args.sizes whole (reference c.in-Reference.r) c.args.parts.now.items c.loop-node.parts.items c.add_part.new.parts.items has
    (adds_one c.args.sizes c.in-Reference.r c.loop-node.parts.items c.add_part.new.parts.items (rw c.range.ensures at adds))) c.add_part.ensures

pub add_parts-loop-node-preserved : goal.add_parts-loop-node-preserved
add_parts-loop-node-preserved t c =
    let same : tree_of (node.Binary c.in-Binary.field-0 c.in-Binary.left c.in-Binary.right) ≡ binary c.in-Binary.field-0
    (tree_of c.in-Binary.left.value) (tree_of c.in-Binary.right.value) = search (rules, the_lemmas) in
    let has = rw (c.in-Binary.is, same) at c.loop-node.invariant in
    let adds = rw c.deref.ensures at c.in_ok-add_parts-in-Binary.ensures in
    rw c.deref-node-in-Binary.ensures (rest_right c.args.sizes (tree_of c.args.root.now)
    (tree_of c.in-Binary.left.value) (tree_of c.in-Binary.right.value) c.in-Binary.field-0 c.args.parts.now.items
    c.loop-node.parts.items c.add_parts.new.parts.items has adds)

pub add_parts-returns-in-Call : goal.add_parts-returns-in-Call
add_parts-returns-in-Call t c =
    let same : tree_of (node.Call c.in-Call.field-0 c.in-Call.parameters) ≡ call c.in-Call.field-0
    (parameters_of c.in-Call.parameters) = search (rules, the_lemmas) in
    let has = rw (c.in-Call.is, same) at c.loop-node.invariant in
    on_ok_weaker _ (λ (adds : AddsParts c.args.sizes (all_references (trees_of c.items.result.now)) c.loop-node.parts.items c.add_all.new.parts.items).
    rest_added c.args.sizes (tree_of c.args.root.now) (call c.in-Call.field-0 (parameters_of c.in-Call.parameters))
    c.args.parts.now.items c.loop-node.parts.items c.add_all.new.parts.items has (rw c.items.ensures at adds))
    c.add_all.ensures

pub add_all-add_parts-requires : goal.add_all-add_parts-requires
add_all-add_parts-requires t c =
    let smaller : node_count (tree_of c.root-item.result) ≤ all_nodes (trees_of c.args.roots.now) =
    count_among c.args.roots.now c.loop-root.root-index c.root-item.result c.loop-root-test.true c.root-item.is in
    search rules

pub add_all-loop-root-preserved : goal.add_all-loop-root-preserved
add_all-loop-root-preserved t c =
    let roots = c.args.roots.now in
    let i = c.loop-root.root-index in
    let more = references_more roots i c.root-item.result c.loop-root-test.true c.root-item.is in
    rw more (adds_append c.args.sizes (all_references (trees_of (take i roots)))
    (references_of (tree_of c.root-item.result)) c.args.parts.now.items c.loop-root.parts.items
    c.add_parts.new.parts.items c.loop-root.invariant c.in_ok-add_parts.ensures)

pub add_all-returns : goal.add_all-returns
add_all-returns t c =
    let all = take-all c.args.roots.now c.loop-root.root-index c.loop-root-test.false in
    rw all at c.loop-root.invariant
