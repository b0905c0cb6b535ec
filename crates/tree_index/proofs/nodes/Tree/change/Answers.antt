use Rattle.tree_index.specs.Indexes.{entries_in}
use Rattle.tree_index.proofs.WayLemmas.{changes_on, has_on}
use Rattle.tree_index.proofs.nodes.Tree.change.Goals as goal

pub replace-requires-clause-there : goal.replace-requires-clause-there
replace-requires-clause-there c = has_on (entries_in c.args.self.now) (entries_in c.leaf_in_reach.new.self) c.args.id
    c.leaf_in_reach.ensures.rest.same c.requires.there

pub returns-in_default-clause-changed : goal.returns-in_default-clause-changed
returns-in_default-clause-changed c = changes_on (entries_in c.args.self.now) (entries_in c.leaf_in_reach.new.self)
    (entries_in c.replace.new.self) c.args.id c.args.range c.leaf_in_reach.ensures.rest.same c.replace.ensures.changed

pub returns-then-shrinks-clause-changed : goal.returns-then-shrinks-clause-changed
returns-then-shrinks-clause-changed c = changes_on (entries_in c.args.self.now) (entries_in c.leaf_in_reach.new.self)
    (entries_in c.shrink_in_leaf.new.self) c.args.id c.args.range c.leaf_in_reach.ensures.rest.same
    c.shrink_in_leaf.ensures.changed

pub returns-else-shrinks-clause-changed : goal.returns-else-shrinks-clause-changed
returns-else-shrinks-clause-changed c = changes_on (entries_in c.args.self.now) (entries_in c.leaf_in_reach.new.self)
    (entries_in c.change_in_leaf.new.self) c.args.id c.args.range c.leaf_in_reach.ensures.rest.same
    c.change_in_leaf.ensures.changed
