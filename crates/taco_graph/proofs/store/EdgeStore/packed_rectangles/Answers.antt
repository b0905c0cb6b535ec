use Rattle.taco_graph.proofs.FilingLemmas.{files_moved, once_moved}
use Rattle.taco_graph.proofs.store.EdgeStore.packed_rectangles.Goals as goal

pub returns-clause-all : goal.returns-clause-all
returns-clause-all g c =
    files_moved c.args.self.now.slots c.in_ok-items.items.items c.sort_unstable_by_key.new.self.items
    c.sort_unstable_by_key.ensures.permutation c.in_ok-items.ensures.all

pub returns-clause-once : goal.returns-clause-once
returns-clause-once g c =
    once_moved c.in_ok-items.items.items c.sort_unstable_by_key.new.self.items c.sort_unstable_by_key.ensures.permutation
    c.in_ok-items.ensures.once
