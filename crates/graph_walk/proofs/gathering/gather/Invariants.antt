use Rattle.std.proofs.Common.{◌-◌, length, take}
use Rattle.sheet_refs.specs.Rectangles.{IsAmong}
use Rattle.graph_walk.specs.Gathers.{Gathers}
use Rattle.graph_walk.proofs.gathering.gather.Given as goal

abbrev pub invariant-loop-place : goal.invariant-loop-place
invariant-loop-place l = Gathers l.fn.set l.set l.fn.waiting.items l.waiting.items (IsAmong (take l.place l.found))

abbrev pub decreases-loop-place : goal.decreases-loop-place
decreases-loop-place l = length l.found - l.place
