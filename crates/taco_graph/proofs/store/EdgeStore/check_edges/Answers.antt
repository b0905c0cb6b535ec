use Rattle.std.proofs.Common.{subst}
use Rattle.taco_graph.specs.Stores.{StoreValue, AreEdges}
use Rattle.taco_graph.proofs.store.EdgeStore.check_edges.Goals as goal

pub returns : goal.returns
returns g c = subst (λ (s : StoreValue). AreEdges s.slots) c.self.view_is c.self.invariant.edges
