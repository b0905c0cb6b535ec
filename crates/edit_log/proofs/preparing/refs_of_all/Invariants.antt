use Rattle.std.proofs.Common.{take}
use Rattle.edit_log.specs.Books.{HaveRefs}
use Rattle.edit_log.proofs.preparing.refs_of_all.Given as goal

abbrev pub invariant-loop-change : goal.invariant-loop-change
invariant-loop-change l = HaveRefs (take l.change-index l.changes) l.all.items
