use Rattle.std.proofs.Common.{rules}
use Rattle.tree_index.proofs.nodes.Tree.+widen.Goals as goal

pub widen_child-requires-clause-admits : goal.widen_child-requires-clause-admits
widen_child-requires-clause-admits t c = c.widen.ensures.admits (search rules)
