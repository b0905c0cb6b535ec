use Rattle.std.proofs.Common.{◌≡◌}
use Rattle.taco_graph.specs.Sides.{KeepKeys}
use Rattle.taco_graph.proofs.AroundLemmas.{HaveKeys}
use Rattle.taco_graph.proofs.neighbours.Sides.give_keys.Given as goal

abbrev pub invariant-loop-place : goal.invariant-loop-place
invariant-loop-place g l =
    HaveKeys l.store.slots l.fn.self.around.items l.place l.self
    × KeepKeys l.fn.self l.self
    × (l.self.around ≡ l.fn.self.around)
