use Rattle.std.proofs.Common.{◌≡◌}
use Rattle.value_core.specs.Powers.{power}
use Rattle.value_core.proofs.operators.repeated_product.Given as goal

abbrev pub invariant-loop-done : goal.invariant-loop-done
invariant-loop-done l = l.product ≡ power l.base l._done
