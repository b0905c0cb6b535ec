use Rattle.std.proofs.Common.{◌≡◌}
use Rattle.live_gen.specs.Sums.{IsSumOfAtMost}
use Rattle.live_gen.proofs.SumLemmas.{sum_to}
use Rattle.live_gen.proofs.summing.sum_of_numbers.Given as goal

abbrev pub invariant-loop-code : goal.invariant-loop-code
invariant-loop-code l = record {
  sum_is : l.sum ≡ sum_to l.sheet l.code-index;
  bound : IsSumOfAtMost l.code-index l.sum;
}
