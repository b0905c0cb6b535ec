use Rattle.tree_index.specs.Indexes.{entries_in}
use Rattle.tree_index.proofs.WayLemmas.{absent_on, inserts_on}
use Rattle.tree_index.proofs.nodes.Tree.add.Goals as goal

pub put_in_leaf-requires-clause-absent : goal.put_in_leaf-requires-clause-absent
put_in_leaf-requires-clause-absent c = absent_on (entries_in c.args.self.now) (entries_in c.leaf_for.new.self) c.args.id
    c.leaf_for.ensures.rest.same c.requires.absent

pub put_late-requires-clause-absent : goal.put_late-requires-clause-absent
put_late-requires-clause-absent c = absent_on (entries_in c.args.self.now) (entries_in c.leaf_for.new.self) c.args.id
    c.leaf_for.ensures.rest.same c.requires.absent

pub returns-in-Some-clause-inserted : goal.returns-in-Some-clause-inserted
returns-in-Some-clause-inserted c =
    inserts_on (entries_in c.args.self.now) (entries_in c.leaf_for.new.self) (entries_in c.put_in_leaf.new.self)
    c.args.id c.args.range c.leaf_for.ensures.rest.same c.put_in_leaf.ensures.inserted

pub returns-in-None-clause-inserted : goal.returns-in-None-clause-inserted
returns-in-None-clause-inserted c =
    inserts_on (entries_in c.args.self.now) (entries_in c.leaf_for.new.self) (entries_in c.put_late.new.self) c.args.id
    c.args.range c.leaf_for.ensures.rest.same c.put_late.ensures.inserted
