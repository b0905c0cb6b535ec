use Rattle.taco_graph.proofs.FilingLemmas.{FilesBelow}
use Rattle.taco_graph.proofs.store.EdgeStore.rectangles_by_key.Given as goal

abbrev pub invariant-loop-key : goal.invariant-loop-key
invariant-loop-key g l = FilesBelow l.self.slots l.key l.items.items
