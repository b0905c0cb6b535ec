use Rattle.edge_patterns.specs.Axes.{axis_of}
use Rattle.sheet_fill.proofs.RunLemmas.{FillsFront}
use Rattle.sheet_fill.proofs.runs.filled_edge.Given as goal

abbrev pub invariant-loop-index : goal.invariant-loop-index
invariant-loop-index l = FillsFront (axis_of l.run) l.run l.reference l.index l.edge
