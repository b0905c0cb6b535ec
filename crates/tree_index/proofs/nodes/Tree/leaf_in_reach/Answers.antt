use Rattle.tree_index.proofs.nodes.Tree.leaf_in_reach.Goals as goal

pub returns-then-widen-clause-admits : goal.returns-then-widen-clause-admits
returns-then-widen-clause-admits c = c.widen.ensures.admits c.if-widen.true
