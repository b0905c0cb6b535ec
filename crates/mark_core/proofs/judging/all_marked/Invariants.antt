-- Each place so far that the entry touches is marked.
use Rattle.std.proofs.Common.{◌<◌, ℕ}
use Rattle.std.specs.Prelude.{Contains}
use Rattle.mark_core.proofs.judging.all_marked.Given as goal

abbrev pub invariant-loop-place : goal.invariant-loop-place
invariant-loop-place g l =
    (place : ℕ) → place < l.place → g.S.Subject.touches l.subject l.log l.entry place → Contains l.marked place
