use Rattle.std.proofs.Common.{◌<◌, ◌≤◌, ◌+◌, ◌-◌, ◌*◌, length, map}
use Rattle.formula_syntax.specs.Tree.{tree_of}
use Rattle.formula_syntax.proofs.Steps.{Climbs, LeadsAll}
use Rattle.formula_syntax.proofs.parser.+parser.Given as goal

abbrev pub decreases-call : goal.decreases-call
decreases-call l = 16 * length l.tokens.now + 15

abbrev pub decreases-parameters : goal.decreases-parameters
decreases-parameters l = 16 * length l.tokens.now + 14

abbrev pub decreases-group : goal.decreases-group
decreases-group l = 16 * length l.tokens.now + 13

abbrev pub decreases-some_parameters : goal.decreases-some_parameters
decreases-some_parameters l = 16 * length l.tokens.now + 13

abbrev pub decreases-expression : goal.decreases-expression
decreases-expression l = 16 * length l.tokens.now + 12 - 2 * l.at

abbrev pub decreases-signed_operand : goal.decreases-signed_operand
decreases-signed_operand l = 16 * length l.tokens.now + 3

abbrev pub decreases-primary : goal.decreases-primary
decreases-primary l = 16 * length l.tokens.now + 2

abbrev pub decreases-primary_from : goal.decreases-primary_from
decreases-primary_from l = 16 * length l.rest.now + 16

abbrev pub invariant-expression-loop-op : goal.invariant-expression-loop-op
invariant-expression-loop-op l = record {
  small : l.at < 4;
  within : length l.rest < length l.tokens;
  climbs : Climbs l.at l.tokens (tree_of l.left) l.rest;
}

abbrev pub decreases-expression-loop-op : goal.decreases-expression-loop-op
decreases-expression-loop-op l = length l.rest

abbrev pub invariant-some_parameters-loop-nodes : goal.invariant-some_parameters-loop-nodes
invariant-some_parameters-loop-nodes l = record {
  within : length l.left ≤ length l.tokens;
  leads : LeadsAll l.tokens (map tree_of l.nodes.items) l.left;
}

abbrev pub decreases-some_parameters-loop-nodes : goal.decreases-some_parameters-loop-nodes
decreases-some_parameters-loop-nodes l = length l.left
