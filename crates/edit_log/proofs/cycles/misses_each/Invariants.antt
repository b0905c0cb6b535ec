use Rattle.std.proofs.Common.{All, take}
use Rattle.edit_log.specs.Cycles.{Misses}
use Rattle.edit_log.proofs.cycles.misses_each.Given as goal

abbrev pub invariant-loop-range : goal.invariant-loop-range
invariant-loop-range l = All (Misses l.set) (take l.range-index l.ranges)
