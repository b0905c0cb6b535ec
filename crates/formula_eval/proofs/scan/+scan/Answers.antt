use Rattle.std.proofs.Common.{◌≡◌, ◌≤◌, ◌+◌, rules, take, drop}
use Rattle.std.proofs.lemmas.Result.{on_ok_weaker, err_from_is_err_and}
use Rattle.std.proofs.lemmas.List.Elements.{All-append, All-same}
use Rattle.sheet_refs.specs.Ends.{Reference, corners_of}
use Rattle.formula_syntax.specs.Tree.{reference, binary, call, tree_of, trees_of, parameters_of, references_of, all_references, node_count, all_nodes}
use Rattle.formula_eval.specs.declared.scan.Stop.{Stop}
use Rattle.formula_eval.specs.Inputs.{ArePlain, IsPlainRange}
use Rattle.formula_eval.specs.Stops.{StopsAt}
use Rattle.formula_eval.proofs.NodeLemmas.{references_more, references_split, count_among, take-all}
use Rattle.formula_eval.proofs.ScanLemmas.{rest_plain, rest_right, plain_one, rest_stops, right_stops, stops_within, if_err_weaker}
use Rattle.formula_syntax.specs.declared.tree.Node as node
use Rattle.formula_syntax.specs.declared.tree.Node.TheFolds.{the_lemmas}
use Rattle.formula_eval.proofs.scan.+scan.Goals as goal

pub scan-returns-in-Reference-clause-plain : goal.scan-returns-in-Reference-clause-plain
scan-returns-in-Reference-clause-plain g t c =
    let sizes = g.I.Inputs.sizes c.args.inputs.now in
    let codes = g.I.Inputs.codes c.args.inputs.now in
    let whole = tree_of c.args.root.now in
    let same : tree_of (node.Reference c.in-Reference.r) ≡ reference c.in-Reference.r = search (rules, the_lemmas) in
    let has = rw (c.in-Reference.is, same) at c.loop-node.invariant in
    on_ok_weaker _ (λ (plain : IsPlainRange sizes codes c.range.result).
    rest_plain sizes codes whole (reference c.in-Reference.r) has (plain_one sizes codes c.in-Reference.r
    (rw c.range.ensures at plain))) c.scan_range.ensures.plain

pub scan-returns-in_err-scan-in-Binary-clause-stop :
    goal.scan-returns-in_err-scan-in-Binary-clause-stop
scan-returns-in_err-scan-in-Binary-clause-stop g t c =
    let p = err_from_is_err_and c.from_residual.result c.from_residual.ensures.1 in
    let sizes = g.I.Inputs.sizes c.args.inputs.now in
    let codes = g.I.Inputs.codes c.args.inputs.now in
    let same : tree_of (node.Binary c.in-Binary.field-0 c.in-Binary.left c.in-Binary.right) ≡ binary c.in-Binary.field-0
    (tree_of c.in-Binary.left.value) (tree_of c.in-Binary.right.value) = search (rules, the_lemmas) in
    let has = rw (c.in-Binary.is, same) at c.loop-node.invariant in
    let stops = rw c.deref.ensures at c.in_err-scan-in-Binary.ensures.stop in
    rw (p.1, p.2) (right_stops sizes codes (tree_of c.args.root.now) (tree_of c.in-Binary.left.value)
    (tree_of c.in-Binary.right.value) c.in-Binary.field-0 c.in_err-scan-in-Binary.field-0.0 has stops)

pub scan-loop-node-preserved : goal.scan-loop-node-preserved
scan-loop-node-preserved g t c =
    let sizes = g.I.Inputs.sizes c.args.inputs.now in
    let codes = g.I.Inputs.codes c.args.inputs.now in
    let same : tree_of (node.Binary c.in-Binary.field-0 c.in-Binary.left c.in-Binary.right) ≡ binary c.in-Binary.field-0
    (tree_of c.in-Binary.left.value) (tree_of c.in-Binary.right.value) = search (rules, the_lemmas) in
    let has = rw (c.in-Binary.is, same) at c.loop-node.invariant in
    let plain = rw c.deref.ensures at c.in_ok-scan-in-Binary.ensures.plain in
    rw c.deref-node-in-Binary.ensures (rest_right sizes codes (tree_of c.args.root.now) (tree_of c.in-Binary.left.value)
    (tree_of c.in-Binary.right.value) c.in-Binary.field-0 has plain)

pub scan-returns-in-Call-clause-plain : goal.scan-returns-in-Call-clause-plain
scan-returns-in-Call-clause-plain g t c =
    let sizes = g.I.Inputs.sizes c.args.inputs.now in
    let codes = g.I.Inputs.codes c.args.inputs.now in
    let same : tree_of (node.Call c.in-Call.field-0 c.in-Call.parameters) ≡ call c.in-Call.field-0
    (parameters_of c.in-Call.parameters) = search (rules, the_lemmas) in
    let has = rw (c.in-Call.is, same) at c.loop-node.invariant in
    on_ok_weaker _ (λ (plain : ArePlain sizes codes (all_references (trees_of c.items.result.now))).
    rest_plain sizes codes (tree_of c.args.root.now) (call c.in-Call.field-0 (parameters_of c.in-Call.parameters)) has
    (rw c.items.ensures at plain)) c.scan_all.ensures.plain

pub scan-returns-in-Call-clause-stop : goal.scan-returns-in-Call-clause-stop
scan-returns-in-Call-clause-stop g t c =
    let sizes = g.I.Inputs.sizes c.args.inputs.now in
    let codes = g.I.Inputs.codes c.args.inputs.now in
    let same : tree_of (node.Call c.in-Call.field-0 c.in-Call.parameters) ≡ call c.in-Call.field-0
    (parameters_of c.in-Call.parameters) = search (rules, the_lemmas) in
    let has = rw (c.in-Call.is, same) at c.loop-node.invariant in
    if_err_weaker c.scan_all.result (λ (e : Stop) (stops : StopsAt sizes codes (all_references (trees_of c.items.result.now)) e).
    rest_stops sizes codes (tree_of c.args.root.now) (call c.in-Call.field-0 (parameters_of c.in-Call.parameters)) e has
    (rw c.items.ensures at stops)) c.scan_all.ensures.stop

pub scan_all-scan-requires : goal.scan_all-scan-requires
scan_all-scan-requires g t c κs within =
    let smaller : node_count (tree_of c.root-item.result) ≤ all_nodes (trees_of c.args.roots.now) =
    count_among c.args.roots.now c.loop-root.root-index c.root-item.result c.loop-root-test.true c.root-item.is in
    search rules

pub scan_all-returns-in_err-scan-clause-stop : goal.scan_all-returns-in_err-scan-clause-stop
scan_all-returns-in_err-scan-clause-stop g t c =
    let p = err_from_is_err_and c.from_residual.result c.from_residual.ensures.1 in
    let sizes = g.I.Inputs.sizes c.args.inputs.now in
    let codes = g.I.Inputs.codes c.args.inputs.now in
    let roots = c.args.roots.now in
    let i = c.loop-root.root-index in
    let split = references_split roots i c.root-item.result c.loop-root-test.true c.root-item.is in
    rw (p.1, p.2) (stops_within sizes codes (all_references (trees_of roots)) (all_references (trees_of (take i roots)))
    (references_of (tree_of c.root-item.result)) (all_references (trees_of (drop (i + 1) roots)))
    c.in_err-scan.field-0.0 split c.in_err-scan.ensures.stop)

pub scan_all-loop-root-preserved : goal.scan_all-loop-root-preserved
scan_all-loop-root-preserved g t c =
    let sizes = g.I.Inputs.sizes c.args.inputs.now in
    let codes = g.I.Inputs.codes c.args.inputs.now in
    let roots = c.args.roots.now in
    let i = c.loop-root.root-index in
    let P = λ (r : Reference). IsPlainRange sizes codes (corners_of r) in
    let more = references_more roots i c.root-item.result c.loop-root-test.true c.root-item.is in
    All-same P _ _ more (All-append P (all_references (trees_of (take i roots)))
    (references_of (tree_of c.root-item.result)) c.loop-root.invariant c.in_ok-scan.ensures.plain)

pub scan_all-returns-clause-plain : goal.scan_all-returns-clause-plain
scan_all-returns-clause-plain g t c =
    let roots = c.args.roots.now in
    let all = take-all roots c.loop-root.root-index c.loop-root-test.false in
    rw all at c.loop-root.invariant
