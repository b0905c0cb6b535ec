use Rattle.std.proofs.Common.{◌≤◌}
use Rattle.formula_syntax.specs.declared.tree.Node.{size-Node}
use Rattle.formula_syntax.proofs.+tree.Given as goal

abbrev pub invariant-tree::Node::drop-loop-self : goal.invariant-tree::Node::drop-loop-self
invariant-tree::Node::drop-loop-self l = size-Node l.self ≤ size-Node l.initial.self
