use Rattle.tree_index.specs.Indexes.{entries_in}
use Rattle.tree_index.proofs.WayLemmas.{changed_on}
use Rattle.tree_index.proofs.nodes.Tree.shrink_in_leaf.Goals as goal

pub returns-clause-changed : goal.returns-clause-changed
returns-clause-changed c = changed_on (entries_in c.args.self.now) (entries_in c.change_in_leaf.new.self)
    (entries_in c.mend.new.self) c.args.id c.args.range c.change_in_leaf.ensures.changed c.mend.ensures.same
