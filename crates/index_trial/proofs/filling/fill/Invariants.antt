use Rattle.std.proofs.Common.{◌+◌, ◌≤◌, length}
use Rattle.index_trial.specs.Listed.{AreListed}
use Rattle.index_trial.proofs.filling.fill.Given as goal

abbrev pub invariant-loop-place : goal.invariant-loop-place
invariant-loop-place g l = record {
  listed : AreListed (g.I.RangeIndex.entries l.index) l.ranges 0 l.place;
  room : length l.ranges ≤ g.I.RangeIndex.spare l.index + l.place;
}
