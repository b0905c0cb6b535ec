use Rattle.std.proofs.Common.{◌≤◌}
use Rattle.range_index.specs.Entries.{SameEntries}
use Rattle.tree_index.specs.Indexes.{HoldTree, entries_in, room_of}
use Rattle.tree_index.proofs.nodes.Tree.settle_all.Given as goal

abbrev pub invariant-loop : goal.invariant-loop
invariant-loop l = HoldTree l.self × SameEntries (entries_in l.initial.self) (entries_in l.self) × (room_of l.initial.self ≤ room_of l.self)
