use Rattle.std.proofs.Common.{◌≡◌, ◌+◌, ◌≤◌, take}
use Rattle.sheet_refs.specs.Refs.{AreRefs}
use Rattle.sheet_refs.specs.Cells.{span_of}
use Rattle.taco_graph.specs.Joinable.{KeptAreJoined}
use Rattle.taco_graph.specs.Sides.{NameBeside, AreRound}
use Rattle.taco_graph.proofs.ReplaceLemmas.{AreReplaced}
use Rattle.taco_graph.proofs.taco.TacoGraph.replace.Given as goal

abbrev pub invariant-loop-range : goal.invariant-loop-range
invariant-loop-range g l =
    AreRefs l.range-items
    × AreReplaced l.initial.self-inside.store.slots l.self-inside.store.slots l.cell (take l.range-index l.range-items)
    × (l.initial.self-inside.store.room ≤ l.self-inside.store.room + l.range-index)
    × (255 ≤ l.initial.self-inside.store.room)
    × KeptAreJoined l.self-inside.store.slots
    × NameBeside l.self-inside.store.slots l.cell l.self-inside.sides
    × AreRound (span_of l.cell l.cell) l.self-inside.sides
    × (l.self-inside.ready ≡ l.initial.self-inside.ready)
