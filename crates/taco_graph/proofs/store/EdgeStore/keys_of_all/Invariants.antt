use Rattle.taco_graph.proofs.FilingLemmas.{ListsMet}
use Rattle.taco_graph.proofs.store.EdgeStore.keys_of_all.Given as goal

abbrev pub invariant-loop-key : goal.invariant-loop-key
invariant-loop-key g l = ListsMet l.self.slots l.q l.key l.keys.items
