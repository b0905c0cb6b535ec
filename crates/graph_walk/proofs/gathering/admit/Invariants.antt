use Rattle.std.proofs.Common.{take}
use Rattle.graph_walk.proofs.GatherLemmas.{Admitted}
use Rattle.graph_walk.proofs.gathering.admit.Given as goal

abbrev pub invariant-loop-part : goal.invariant-loop-part
invariant-loop-part l = Admitted l.fn.set l.set l.fn.waiting.items l.waiting.items (take l.part-index l.part-items)
