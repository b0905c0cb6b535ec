use Rattle.formula_eval.specs.Blocks.{line_of}
use Rattle.formula_eval.specs.Sums.{AddsWords}
use Rattle.formula_eval.proofs.lines.with_values.Given as goal

abbrev pub invariant-loop-k : goal.invariant-loop-k
invariant-loop-k l = AddsWords l.initial.more (line_of l.words l.first l.step l.k) l.more
