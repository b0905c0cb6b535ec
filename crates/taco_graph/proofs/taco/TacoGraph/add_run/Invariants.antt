use Rattle.std.proofs.Common.{◌≡◌, ◌+◌, ◌≤◌, take}
use Rattle.taco_graph.specs.Joinable.{KeptAreJoined}
use Rattle.taco_graph.specs.Sides.{NameBeside, AreRound}
use Rattle.taco_graph.proofs.RunLemmas.{AreFilled}
use Rattle.taco_graph.proofs.taco.TacoGraph.add_run.Given as goal

abbrev pub invariant-loop-one : goal.invariant-loop-one
invariant-loop-one g l =
    AreFilled l.initial.self-inside.store.slots l.self-inside.store.slots l.run (take l.one-index l.series)
    × (l.initial.self-inside.store.room ≤ l.self-inside.store.room + l.one-index)
    × KeptAreJoined l.self-inside.store.slots
    × NameBeside l.self-inside.store.slots l.run.head l.self-inside.sides
    × AreRound l.run l.self-inside.sides
    × (l.self-inside.ready ≡ l.initial.self-inside.ready)
