use Rattle.tree_index.specs.Indexes.{entries_in}
use Rattle.tree_index.proofs.WayLemmas.{same_on}
use Rattle.tree_index.proofs.nodes.Tree.settle_last.Goals as goal

pub returns-clause-same : goal.returns-clause-same
returns-clause-same c =
    same_on (entries_in c.args.self.now) (entries_in c.leaf_for.new.self) (entries_in c.settle.new.self)
    c.leaf_for.ensures.rest.same c.settle.ensures.same
