use Rattle.std.proofs.Common.{◌≤◌, ◌-◌}
use Rattle.formula_eval.specs.Blocks.{line_of}
use Rattle.formula_eval.specs.Sums.{AddsWords}
use Rattle.formula_eval.proofs.lines.with_line.Given as goal

abbrev pub invariant-loop-done : goal.invariant-loop-done
invariant-loop-done l = AddsWords l.initial.more (line_of l.words l.first l.step l.done) l.more × (l.done ≤ l.count)

abbrev pub decreases-loop-done : goal.decreases-loop-done
decreases-loop-done l = l.count - l.done
