use Rattle.std.proofs.Common.{ap, ◌∙◌, ◌%◌}
use Rattle.live_gen.proofs.DrawLemmas.{state_first}
use Rattle.live_gen.proofs.draws.Draws.of.Goals as goal

pub invariant_of-result : goal.invariant_of-result
invariant_of-result c = ap (λ n. n % 2147483648) c.from.ensures ∙ state_first c.args.number
