use Rattle.std.proofs.Common.{ℕ, ◌<◌}
use Rattle.taco_graph.specs.Joinable.{CantJoinAt}
use Rattle.taco_graph.proofs.side.joined_of_all.Given as goal

abbrev pub invariant-loop-key : goal.invariant-loop-key
invariant-loop-key g l = (key : ℕ) → key < l.key → CantJoinAt l.store.slots key l.edge l.cell
