use Rattle.std.proofs.Common.{◌≡◌, ◌≤◌, ◌*◌, ◌^◌, nat_abs}
use Rattle.formula_eval.specs.Blocks.{line_of}
use Rattle.formula_eval.specs.Sums.{AddsWords}
use Rattle.formula_eval.proofs.BlockLemmas.{moved}
use Rattle.formula_eval.proofs.lines.with_numbers.Given as goal

abbrev pub invariant-loop-k : goal.invariant-loop-k
invariant-loop-k l =
    (l.others ≡ 0 → AddsWords l.sum (line_of l.words l.first l.step l.k) (moved l.sum l.total l.k)) × (nat_abs l.total ≤ l.k * 2 ^ 53) × (l.others ≤ l.k * 7)
