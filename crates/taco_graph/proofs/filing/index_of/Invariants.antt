use Rattle.std.proofs.Common.{take}
use Rattle.range_index.specs.Entries.{SameEntries}
use Rattle.taco_graph.proofs.filing.index_of.Given as goal

abbrev pub invariant-loop-item : goal.invariant-loop-item
invariant-loop-item g l = SameEntries (take l.item-index l.items) (g.I.RangeIndex.entries l.index)
