use Rattle.std.proofs.Common.{◌≡◌, ◌≤◌, ◌<◌, ◌+◌, ap, sym, ◌∙◌, arith, rules, take, drop, length, vec_len}
use Rattle.std.specs.Prelude.{vec_capacity}
use Rattle.formula_syntax.specs.Tree.{reference, prefix, binary, call, tree_of, trees_of, parameters_of, references_of, node_count, all_nodes}
use Rattle.formula_syntax.specs.declared.tree.Node as node
use Rattle.formula_syntax.specs.declared.tree.Node.TheFolds.{the_lemmas}
use Rattle.formula_eval.specs.Functions.{contributions, total_of, or_error}
use Rattle.formula_eval.specs.Inputs.{seen_values}
use Rattle.formula_eval.specs.Items.{items_of, items_of_parameter}
use Rattle.formula_eval.specs.Meaning.{parameter_values, parameter_value}
use Rattle.formula_eval.proofs.NodeLemmas.{count_among}
use Rattle.formula_eval.proofs.TallyLemmas.{adds_both, adds_same, append_err, first_err}
use Rattle.formula_eval.proofs.MachineLemmas.{left_prefix, left_binary, left_room, plain_left, plain_right}
use Rattle.formula_eval.proofs.MachineLemmas.{plain_one_range, plain_among, parameters_more, parameters_split}
use Rattle.formula_eval.proofs.MachineLemmas.{scalar_here, scalar_past, nodes_many}
use Rattle.formula_eval.proofs.machine.+machine.Goals as goal

pub add_parameter-add_cells-requires-clause-plain :
    goal.add_parameter-add_cells-requires-clause-plain
add_parameter-add_cells-requires-clause-plain g t c =
    let sizes = g.I.Inputs.sizes c.args.inputs.now in
    let codes = g.I.Inputs.codes c.args.inputs.now in
    rw c.range.ensures (plain_one_range sizes codes c.in-Some.r (rw c.in-Some.ensures at c.requires.plain))

pub add_parameter-returns-in-Some-clause-err : goal.add_parameter-returns-in-Some-clause-err
add_parameter-returns-in-Some-clause-err g t c =
    rw c.in-Some.ensures (rw c.range.ensures at c.add_cells.ensures.err)

pub scalar-value-requires : goal.scalar-value-requires
scalar-value-requires g t c κs within =
    let smaller = count_among c.args.parameters.now c.args.place c.index-parameters-place.result c.if-place-parameters.true c.index-parameters-place.is in
    let plain = plain_among (g.I.Inputs.sizes c.args.inputs.now) (g.I.Inputs.codes c.args.inputs.now)
    c.args.parameters.now c.args.place c.index-parameters-place.result c.if-place-parameters.true
    c.index-parameters-place.is c.requires.plain in
    search rules

pub scalar-returns-then-place-parameters-clause-value :
    goal.scalar-returns-then-place-parameters-clause-value
scalar-returns-then-place-parameters-clause-value g t c =
    let h = seen_values (g.I.Inputs.sizes c.args.inputs.now) (g.I.Inputs.codes c.args.inputs.now) in
    c.value.ensures.value
    ∙ sym (scalar_here h c.args.parameters.now c.args.place c.index-parameters-place.result
    c.if-place-parameters.true c.index-parameters-place.is)

pub scalar-returns-else-place-parameters-clause-value :
    goal.scalar-returns-else-place-parameters-clause-value
scalar-returns-else-place-parameters-clause-value g t c =
    let h = seen_values (g.I.Inputs.sizes c.args.inputs.now) (g.I.Inputs.codes c.args.inputs.now) in
    sym (scalar_past h c.args.parameters.now c.args.place c.if-place-parameters.false)

pub sequence-add_parameter-requires : goal.sequence-add_parameter-requires
sequence-add_parameter-requires g t c κs within =
    let smaller = count_among c.args.parameters.now c.loop-parameter.parameter-index c.parameter-item.result c.loop-parameter-test.true c.parameter-item.is in
    let plain = plain_among (g.I.Inputs.sizes c.args.inputs.now) (g.I.Inputs.codes c.args.inputs.now)
    c.args.parameters.now c.loop-parameter.parameter-index c.parameter-item.result c.loop-parameter-test.true
    c.parameter-item.is c.requires.plain in
    let many = nodes_many c.args.parameters.now in
    let bounded = c.loop-parameter.invariant.adds.bounded in
    let long : vec_len c.loop-parameter.pending ≡ vec_len c.args.pending.now =
    omega (arith, ap length c.loop-parameter.invariant.items, c.loop-parameter.pending.ok, c.args.pending.now.ok) in
    let few : c.loop-parameter.tally.count < 576460752303423488 = omega (arith, c.loop-parameter.invariant.few, c.requires.small) in
    search rules

pub sequence-returns-in-Err-clause-value : goal.sequence-returns-in-Err-clause-value
sequence-returns-in-Err-clause-value g t c =
    let h = seen_values (g.I.Inputs.sizes c.args.inputs.now) (g.I.Inputs.codes c.args.inputs.now) in
    let f = c.args.function in
    let params = c.args.parameters.now in
    let i = c.loop-parameter.parameter-index in
    let split = parameters_split h params i c.parameter-item.result c.loop-parameter-test.true c.parameter-item.is in
    let here = first_err f (items_of_parameter (parameter_value h (tree_of c.parameter-item.result)))
    (items_of (parameter_values h (trees_of (drop (i + 1) params)))) c.in-Err.kind c.in-Err.ensures.err in
    let all = append_err f (items_of (parameter_values h (trees_of (take i params)))) _
    c.loop-parameter.invariant.adds.numbers c.in-Err.kind c.loop-parameter.invariant.adds.given here in
    sym (ap (λ r. or_error r (total_of f)) (ap (contributions f) split ∙ all))

pub sequence-loop-parameter-preserved : goal.sequence-loop-parameter-preserved
sequence-loop-parameter-preserved g t c =
    let h = seen_values (g.I.Inputs.sizes c.args.inputs.now) (g.I.Inputs.codes c.args.inputs.now) in
    let f = c.args.function in
    let params = c.args.parameters.now in
    let i = c.loop-parameter.parameter-index in
    let step = parameters_more h params i c.parameter-item.result c.loop-parameter-test.true c.parameter-item.is in
    record {
      adds =
          adds_same f c.new-tally.result c.add_parameter.new.tally _ _ step
          (adds_both f c.new-tally.result c.loop-parameter.tally c.add_parameter.new.tally _ _
          c.loop-parameter.invariant.adds c.in_default.ensures.ok);
      few = omega (arith, c.loop-parameter.invariant.few, c.in_default.ensures.few);
      items = c.add_parameter.ensures.items ∙ c.loop-parameter.invariant.items;
      capacity = c.add_parameter.ensures.capacity ∙ c.loop-parameter.invariant.capacity;
    }

pub sequence-finish-requires : goal.sequence-finish-requires
sequence-finish-requires g t c =
    omega (arith, c.loop-parameter.invariant.few, nodes_many c.args.parameters.now, c.requires.small)

pub value-scalar_of-value-requires : goal.value-scalar_of-value-requires
value-scalar_of-value-requires g t c =
    let sizes = g.I.Inputs.sizes c.args.inputs.now in
    let codes = g.I.Inputs.codes c.args.inputs.now in
    let same : tree_of (node.Reference c.in-Reference.r) ≡ reference c.in-Reference.r = search (rules, the_lemmas) in
    let left = rw (c.in-Reference.is, same) at c.loop-node.invariant.0 in
    rw c.range.ensures (plain_one_range sizes codes c.in-Reference.r left.plain)

pub value-loop-node-preserved-in-Prefix : goal.value-loop-node-preserved-in-Prefix
value-loop-node-preserved-in-Prefix g t c =
    let sizes = g.I.Inputs.sizes c.args.inputs.now in
    let codes = g.I.Inputs.codes c.args.inputs.now in
    let same : tree_of (node.Prefix c.in-Prefix.op c.in-Prefix.operand) ≡ prefix c.in-Prefix.op
    (tree_of c.in-Prefix.operand.value) = search (rules, the_lemmas) in
    let left = rw (c.in-Prefix.is, same) at c.loop-node.invariant.0 in (
      rw (c.deref-node.ensures, c.push_reserved.ensures.items) (left_prefix sizes codes (tree_of c.args.root.now)
          c.args.pending.now.items c.loop-node.pending.items c.in-Prefix.op (tree_of c.in-Prefix.operand.value) left),
      c.push_reserved.ensures.capacity ∙ c.loop-node.invariant.1,
    )

pub value-loop-node-preserved : goal.value-loop-node-preserved
value-loop-node-preserved g t c =
    let sizes = g.I.Inputs.sizes c.args.inputs.now in
    let codes = g.I.Inputs.codes c.args.inputs.now in
    let first = tree_of c.in-Binary.left.value in
    let second = tree_of c.in-Binary.right.value in
    let same : tree_of (node.Binary c.in-Binary.op c.in-Binary.left c.in-Binary.right) ≡ binary c.in-Binary.op first second = search (rules, the_lemmas) in
    let left = rw (c.in-Binary.is, same) at c.loop-node.invariant.0 in
    let plain = plain_left sizes codes (references_of first) (references_of second) left.plain in
    let value = rw c.deref.ensures at c.value-right.ensures.value in (
      rw (c.deref-node-in-Binary.ensures, c.push_reserved-in-Binary.ensures.items, c.value-right.ensures.items)
          (left_binary sizes codes (tree_of c.args.root.now) c.args.pending.now.items c.loop-node.pending.items
          c.in-Binary.op first second c.value-right.result value left plain),
      c.push_reserved-in-Binary.ensures.capacity ∙ c.value-right.ensures.capacity ∙ c.loop-node.invariant.1,
    )

pub value-push_reserved-requires : goal.value-push_reserved-requires
value-push_reserved-requires g t c =
    let sizes = g.I.Inputs.sizes c.args.inputs.now in
    let codes = g.I.Inputs.codes c.args.inputs.now in
    let part = prefix c.in-Prefix.op (tree_of c.in-Prefix.operand.value) in
    let same : tree_of (node.Prefix c.in-Prefix.op c.in-Prefix.operand) ≡ part = search (rules, the_lemmas) in
    let left = rw (c.in-Prefix.is, same) at c.loop-node.invariant.0 in
    let room = left_room sizes codes (tree_of c.args.root.now) part c.args.pending.now.items c.loop-node.pending.items
    (vec_capacity c.args.pending.now) left (omega (arith, c.requires.room, c.args.pending.now.ok)) in
    omega (arith, room.0, c.loop-node.pending.ok, c.loop-node.invariant.1)

pub value-value-right-requires : goal.value-value-right-requires
value-value-right-requires g t c κs within =
    let sizes = g.I.Inputs.sizes c.args.inputs.now in
    let codes = g.I.Inputs.codes c.args.inputs.now in
    let first = tree_of c.in-Binary.left.value in
    let second = tree_of c.in-Binary.right.value in
    let part = binary c.in-Binary.op first second in
    let same : tree_of (node.Binary c.in-Binary.op c.in-Binary.left c.in-Binary.right) ≡ part = search (rules, the_lemmas) in
    let left = rw (c.in-Binary.is, same) at c.loop-node.invariant.0 in
    let room = left_room sizes codes (tree_of c.args.root.now) part c.args.pending.now.items c.loop-node.pending.items
    (vec_capacity c.args.pending.now) left (omega (arith, c.requires.room, c.args.pending.now.ok)) in
    let plain = rw (← c.deref.ensures) at (plain_right sizes codes (references_of first) (references_of second) left.plain) in
    let here : tree_of c.deref.result.now ≡ second = ap tree_of c.deref.ensures in
    let count = ap node_count here in
    let smaller : node_count (tree_of c.deref.result.now) < node_count (tree_of c.args.root.now) = omega (arith, count, room.1) in
    let fits : vec_len c.loop-node.pending + node_count (tree_of c.deref.result.now) ≤ vec_capacity
    c.loop-node.pending = omega (arith, count, room.0, c.loop-node.pending.ok, c.loop-node.invariant.1) in
    search rules

pub value-push_reserved-requires-in-Binary : goal.value-push_reserved-requires-in-Binary
value-push_reserved-requires-in-Binary g t c =
    let sizes = g.I.Inputs.sizes c.args.inputs.now in
    let codes = g.I.Inputs.codes c.args.inputs.now in
    let part = binary c.in-Binary.op (tree_of c.in-Binary.left.value) (tree_of c.in-Binary.right.value) in
    let same : tree_of (node.Binary c.in-Binary.op c.in-Binary.left c.in-Binary.right) ≡ part = search (rules, the_lemmas) in
    let left = rw (c.in-Binary.is, same) at c.loop-node.invariant.0 in
    let room = left_room sizes codes (tree_of c.args.root.now) part c.args.pending.now.items c.loop-node.pending.items
    (vec_capacity c.args.pending.now) left (omega (arith, c.requires.room, c.args.pending.now.ok)) in
    let long = ap length c.value-right.ensures.items in
    omega (arith, room.0, c.loop-node.pending.ok, c.value-right.new.pending.ok, long, c.value-right.ensures.capacity, c.loop-node.invariant.1)

pub value-call-value-requires : goal.value-call-value-requires
value-call-value-requires g t c κs within =
    let sizes = g.I.Inputs.sizes c.args.inputs.now in
    let codes = g.I.Inputs.codes c.args.inputs.now in
    let part = call c.in-Call.function (parameters_of c.in-Call.parameters) in
    let same : tree_of (node.Call c.in-Call.function c.in-Call.parameters) ≡ part = search (rules, the_lemmas) in
    let left = rw (c.in-Call.is, same) at c.loop-node.invariant.0 in
    let room = left_room sizes codes (tree_of c.args.root.now) part c.args.pending.now.items c.loop-node.pending.items
    (vec_capacity c.args.pending.now) left (omega (arith, c.requires.room, c.args.pending.now.ok)) in
    let plain = rw (← c.items.ensures) at left.plain in
    let count = ap all_nodes c.items.ensures in
    let smaller : all_nodes (trees_of c.items.result.now) < node_count (tree_of c.args.root.now) = omega (arith, count, room.1) in
    let fits : vec_len c.loop-node.pending + all_nodes (trees_of c.items.result.now) ≤ vec_capacity
    c.loop-node.pending = omega (arith, count, room.0, c.loop-node.pending.ok, c.loop-node.invariant.1) in
    search rules
