use Rattle.std.proofs.Common.{take}
use Rattle.edit_log.specs.Waiting.{AddsPairsAt}
use Rattle.edit_log.proofs.waiting.add_each.Given as goal

abbrev pub invariant-loop-place : goal.invariant-loop-place
invariant-loop-place g l =
    AddsPairsAt l.sheet (take l.place-index l.places) (g.G.Graph.pairs l.fn.graph) (g.G.Graph.pairs l.graph)
