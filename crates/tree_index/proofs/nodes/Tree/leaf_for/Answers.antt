use Rattle.tree_index.proofs.WayLemmas.{rearranged_on}
use Rattle.tree_index.proofs.nodes.Tree.leaf_for.Goals as goal

pub returns-in-None-clause-rest : goal.returns-in-None-clause-rest
returns-in-None-clause-rest c = rearranged_on c.args.self.now c.leaf_again.new.self c.leaf_from_root.new.self
    c.leaf_again.ensures.rest c.leaf_from_root.ensures.rest
