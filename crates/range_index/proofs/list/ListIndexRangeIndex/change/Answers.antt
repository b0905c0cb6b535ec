use Rattle.range_index.proofs.RangeLemmas.{absent_after, changes_by}
use Rattle.range_index.proofs.list.ListIndexRangeIndex.change.Goals as goal

pub insert-requires-clause-absent : goal.insert-requires-clause-absent
insert-requires-clause-absent c = absent_after c.args.self.now.entries c.remove.new.self.entries c.args.id c.remove.ensures.removed

pub returns-clause-changed : goal.returns-clause-changed
returns-clause-changed c = changes_by c.args.self.now.entries c.remove.new.self.entries c.insert.new.self.entries
    c.args.id c.args.to c.remove.ensures.removed c.insert.ensures.inserted
