use Rattle.std.proofs.Common.{◌<◌}
use Rattle.taco_graph.specs.Changes.{KeepsOthers, KeepsRoomForParts}
use Rattle.taco_graph.specs.Joinable.{OthersAreJoined}
use Rattle.taco_graph.proofs.ReplaceLemmas.{AreSwept}
use Rattle.taco_graph.proofs.changes.take_out_of_all.Given as goal

abbrev pub invariant-loop-key : goal.invariant-loop-key
invariant-loop-key g l =
    AreSwept l.fn.store.slots l.store.slots l.cell (λ key. key < l.key)
    × KeepsOthers l.fn.store.slots l.store.slots l.cell
    × KeepsRoomForParts l.fn.store.slots l.store.slots l.cell l.fn.store.room l.store.room
    × OthersAreJoined l.store.slots l.cell
