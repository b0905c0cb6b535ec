use Rattle.std.proofs.Common.{take}
use Rattle.play_machine.specs.Waiting.{SetsAside}
use Rattle.play_machine.proofs.queue.Queue.set_aside.Given as goal

abbrev pub invariant-loop-cell : goal.invariant-loop-cell
invariant-loop-cell l = SetsAside l.sizes (take l.cell-index l.cells) l.number l.fn.self l.self
