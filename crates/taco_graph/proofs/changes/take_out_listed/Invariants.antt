use Rattle.std.proofs.Common.{take, Contains}
use Rattle.taco_graph.specs.Changes.{KeepsOthers, KeepsRoomForParts}
use Rattle.taco_graph.specs.Joinable.{OthersAreJoined}
use Rattle.taco_graph.proofs.ReplaceLemmas.{AreSwept}
use Rattle.taco_graph.proofs.changes.take_out_listed.Given as goal

abbrev pub invariant-loop-key : goal.invariant-loop-key
invariant-loop-key g l =
    AreSwept l.fn.store.slots l.store.slots l.cell (λ key. Contains (take l.key-index l.held) key)
    × KeepsOthers l.fn.store.slots l.store.slots l.cell
    × KeepsRoomForParts l.fn.store.slots l.store.slots l.cell l.fn.store.room l.store.room
    × OthersAreJoined l.store.slots l.cell
