use Rattle.tree_index.proofs.nodes.Tree.+widen.Given as goal

abbrev pub decreases-widen : goal.decreases-widen
decreases-widen l = l.levels
