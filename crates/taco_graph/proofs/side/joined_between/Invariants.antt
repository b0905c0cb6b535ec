use Rattle.taco_graph.specs.Sides.{CantJoinBetween}
use Rattle.taco_graph.proofs.side.joined_between.Given as goal

abbrev pub invariant-loop-place : goal.invariant-loop-place
invariant-loop-place g l = CantJoinBetween l.store.slots l.keys l.from l.place l.edge l.cell
