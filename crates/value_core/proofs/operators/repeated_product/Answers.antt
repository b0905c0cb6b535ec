use Rattle.std.proofs.Common.{◌≡◌, ◌∙◌, ap, sym, refl, arith, to_z, of_z, w64}
use Rattle.std.proofs.lemmas.Int.{ints}
use Rattle.value_core.specs.Conversions.{in_range}
use Rattle.value_core.specs.Powers.{power}
use Rattle.value_core.proofs.ArithmeticLemmas.{power_step, out_of_range}
use Rattle.value_core.proofs.operators.repeated_product.Goals as goal

pub loop-done-init : goal.loop-done-init
unfolding power
loop-done-init c = refl

pub returns-in-None : goal.returns-in-None
returns-in-None c =
    sym (out_of_range c.args.base c.loop-done._done c.args.exponent c.requires c.loop-done-test.true
    (rw c.loop-done.invariant at (c.in-None.ensures)))

pub loop-done-preserved : goal.loop-done-preserved
loop-done-preserved c = power_step c.args.base c.loop-done.product c.loop-done._done _ c.loop-done.invariant c.in-Some.ensures.1

pub returns : goal.returns
returns c =
    let count : c.loop-done._done ≡ c.args.exponent = omega arith in
    let same : to_z w64 (of_z w64 c.get.result) ≡ c.loop-done.product = omega (arith, ints) in
    c.in_range.ensures ∙ ap in_range (same ∙ c.loop-done.invariant ∙ ap (power c.args.base) count)
