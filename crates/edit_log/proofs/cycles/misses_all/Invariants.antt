use Rattle.std.proofs.Common.{take}
use Rattle.edit_log.specs.Cycles.{MissesAll}
use Rattle.edit_log.proofs.cycles.misses_all.Given as goal

abbrev pub invariant-loop-one : goal.invariant-loop-one
invariant-loop-one l = MissesAll l.set (take l.one-index l.refs)
