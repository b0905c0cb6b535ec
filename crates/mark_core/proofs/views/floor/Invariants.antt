-- The floor so far, and that of the pairs that are left, give the floor of all.
use Rattle.std.proofs.Common.{◌≡◌, max, drop}
use Rattle.mark_core.specs.Views.{floor_of}
use Rattle.mark_core.proofs.views.floor.Given as goal

abbrev pub invariant-loop-pair : goal.invariant-loop-pair
invariant-loop-pair l = max l.floor (floor_of (drop l.pair-index l.known) l.place) ≡ floor_of l.known l.place
