use Rattle.std.proofs.Common.{◌≤◌, ◌+◌, ◌*◌}
use Rattle.formula_eval.specs.Blocks.{block_of}
use Rattle.formula_eval.specs.Sums.{AddsWords}
use Rattle.formula_eval.proofs.sums.add_rows.Given as goal

abbrev pub invariant-loop-row : goal.invariant-loop-row
invariant-loop-row l =
    AddsWords l.initial.more (block_of l.words 0 l.step l.row l.cols) l.more × (l.more.count ≤ l.initial.more.count + l.row * 16384)
