use Rattle.std.proofs.Common.{length}
use Rattle.index_trial.specs.Listed.{AreListed}
use Rattle.index_trial.proofs.filling.take_first.Given as goal

abbrev pub invariant-loop-place : goal.invariant-loop-place
invariant-loop-place g l = AreListed (g.I.RangeIndex.entries l.index) l.ranges l.place (length l.ranges)
