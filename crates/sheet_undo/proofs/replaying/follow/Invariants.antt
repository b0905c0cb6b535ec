use Rattle.std.proofs.Common.{take}
use Rattle.sheet_undo.specs.Found.{Follows}
use Rattle.sheet_undo.proofs.replaying.follow.Given as goal

abbrev pub invariant-loop-change : goal.invariant-loop-change
invariant-loop-change l = Follows l.cells.sizes (take l.change-index l.changes) l.fn.held.items l.held.items
