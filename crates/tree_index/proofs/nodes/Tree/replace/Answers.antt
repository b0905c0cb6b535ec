use Rattle.range_index.proofs.RangeLemmas.{absent_after, changes_by}
use Rattle.tree_index.specs.Indexes.{entries_in}
use Rattle.tree_index.proofs.nodes.Tree.replace.Goals as goal

pub add-requires-clause-absent : goal.add-requires-clause-absent
add-requires-clause-absent c = absent_after (entries_in c.args.self.now) (entries_in c.take_out.new.self) c.args.id c.take_out.ensures.removed

pub returns-clause-changed : goal.returns-clause-changed
returns-clause-changed c =
    changes_by (entries_in c.args.self.now) (entries_in c.take_out.new.self) (entries_in c.add.new.self) c.args.id
    c.args.range c.take_out.ensures.removed c.add.ensures.inserted
