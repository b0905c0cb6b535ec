use Rattle.graph_walk.specs.Gathers.{IsRunFrom}
use Rattle.graph_walk.proofs.gathering.run_from.Given as goal

abbrev pub invariant-loop-place : goal.invariant-loop-place
invariant-loop-place l = IsRunFrom l.found l.from l.place l.run
