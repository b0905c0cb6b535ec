use Rattle.formula_syntax.proofs.Flatter.{no_deeper}
use Rattle.formula_syntax.proofs.Shifts.{ends_move, shifts_add, no_more_nodes, no_more_references, stays_fitting, stays}
use Rattle.formula_syntax.proofs.Withins.{stays_within}
use Rattle.formula_syntax.proofs.laws.shift_laws.Goals as goal

pub returns-clause-nothing : goal.returns-clause-nothing
returns-clause-nothing c = stays

pub returns-clause-ends : goal.returns-clause-ends
returns-clause-ends c = ends_move

pub returns-clause-nodes : goal.returns-clause-nodes
returns-clause-nodes c = no_more_nodes

pub returns-clause-references : goal.returns-clause-references
returns-clause-references c = no_more_references

pub returns-clause-fitting : goal.returns-clause-fitting
returns-clause-fitting c = stays_fitting

pub returns-clause-sums : goal.returns-clause-sums
returns-clause-sums c = shifts_add

pub returns-clause-depth : goal.returns-clause-depth
returns-clause-depth c = no_deeper

pub returns-clause-within : goal.returns-clause-within
returns-clause-within c = stays_within
