use Rattle.graph_walk.specs.Series.{LackRun}
use Rattle.graph_trial.proofs.runs.put_all.Given as goal

abbrev pub invariant-loop-at : goal.invariant-loop-at
invariant-loop-at g l = LackRun (g.G.Graph.pairs l.graph) l.run
