use Rattle.std.proofs.Common.{◌≡◌, take}
use Rattle.taco_graph.specs.Stores.{edges_of}
use Rattle.taco_graph.proofs.store.EdgeStore.edges.Given as goal

abbrev pub invariant-loop-key : goal.invariant-loop-key
invariant-loop-key g l = l.edges.items ≡ edges_of (take l.key l.self.slots)
