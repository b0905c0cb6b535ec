-- No entry so far touches the place.
use Rattle.std.proofs.Common.{◌<◌, ◌+◌, ◌≤◌, ℕ}
use Rattle.mark_core.specs.Marks.{IsTouched}
use Rattle.mark_core.proofs.judging.none_touches.Given as goal

abbrev pub invariant-loop-index : goal.invariant-loop-index
invariant-loop-index g l =
    (index : ℕ) → l.from ≤ index → index < l.index → IsTouched (g.S.Subject.touches l.subject) l.log l.place (index + 1) → ⊥
