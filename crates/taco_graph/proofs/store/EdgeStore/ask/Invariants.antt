use Rattle.std.proofs.Common.{take}
use Rattle.taco_graph.specs.Answers.{AddsAnswersOf}
use Rattle.taco_graph.proofs.store.EdgeStore.ask.Given as goal

abbrev pub invariant-loop-key : goal.invariant-loop-key
invariant-loop-key g l = AddsAnswersOf l.self.slots l.question l.q (take l.key-index l.key-items) l.fn.out.items l.out.items
