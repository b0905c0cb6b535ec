use Rattle.edit_log.specs.Waiting.{HasPairsBefore}
use Rattle.edit_log.proofs.graphs.add_runs.Given as goal

abbrev pub invariant-loop-col : goal.invariant-loop-col
invariant-loop-col g l = HasPairsBefore l.sheet l.col 1 (g.G.Graph.pairs l.graph) l.waiting
