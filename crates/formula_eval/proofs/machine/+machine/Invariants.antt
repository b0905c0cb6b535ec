use Rattle.std.proofs.Common.{◌≡◌, ◌≤◌, ◌+◌, ◌*◌, take}
use Rattle.std.specs.Prelude.{vec_capacity}
use Rattle.formula_syntax.specs.Tree.{tree_of, trees_of, node_count, all_nodes}
use Rattle.formula_eval.specs.Inputs.{seen_values}
use Rattle.formula_eval.specs.Items.{items_of}
use Rattle.formula_eval.specs.Meaning.{parameter_values}
use Rattle.formula_eval.specs.Tallies.{AddsItems}
use Rattle.formula_eval.proofs.MachineLemmas.{HasLeft}
use Rattle.formula_eval.proofs.machine.+machine.Given as goal

abbrev pub decreases-value : goal.decreases-value
decreases-value g l = 4 * node_count (tree_of l.root.now)

abbrev pub decreases-call : goal.decreases-call
decreases-call g l = 4 * all_nodes (trees_of l.parameters.now) + 3

abbrev pub decreases-scalar : goal.decreases-scalar
decreases-scalar g l = 4 * all_nodes (trees_of l.parameters.now) + 2

abbrev pub decreases-sequence : goal.decreases-sequence
decreases-sequence g l = 4 * all_nodes (trees_of l.parameters.now) + 2

abbrev pub decreases-add_parameter : goal.decreases-add_parameter
decreases-add_parameter g l = 4 * node_count (tree_of l.parameter.now) + 1

abbrev pub invariant-value-loop-node : goal.invariant-value-loop-node
invariant-value-loop-node g l = HasLeft (g.I.Inputs.sizes l.inputs) (g.I.Inputs.codes l.inputs) (tree_of l.root)
    (tree_of l.node) l.fn.pending.items l.pending.items × (vec_capacity l.pending ≡ vec_capacity l.fn.pending)

abbrev pub decreases-value-loop-node : goal.decreases-value-loop-node
decreases-value-loop-node g l = node_count (tree_of l.node)

abbrev pub invariant-sequence-loop-parameter : goal.invariant-sequence-loop-parameter
invariant-sequence-loop-parameter g l = record {
  adds : AddsItems l.fn.function l.initial.tally l.tally
      (items_of (parameter_values (seen_values (g.I.Inputs.sizes l.inputs) (g.I.Inputs.codes l.inputs))
      (trees_of (take l.parameter-index l.parameters))));
  few : l.tally.count ≤ l.parameter-index * 17179869184;
  items : l.pending.items ≡ l.fn.pending.items;
  capacity : vec_capacity l.pending ≡ vec_capacity l.fn.pending;
}
