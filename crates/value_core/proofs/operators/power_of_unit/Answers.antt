use Rattle.std.proofs.Common.{◌≡◌, ◌∙◌, ap, sym, to_z, of_z, w64, arith}
use Rattle.std.proofs.lemmas.Int.{ints}
use Rattle.value_core.specs.Conversions.{in_range}
use Rattle.value_core.specs.Powers.{power}
use Rattle.value_core.proofs.ArithmeticLemmas.{odd_power, even_square}
use Rattle.value_core.proofs.operators.power_of_unit.Goals as goal

pub returns-then-exponent-eq0 : goal.returns-then-exponent-eq0
unfolding power
returns-then-exponent-eq0 c = rw c.if-exponent-eq0.true (c.in_range.ensures)

pub returns-then-exponent-eq1 : goal.returns-then-exponent-eq1
returns-then-exponent-eq1 c =
    let same : to_z w64 (of_z w64 c.get.result) ≡ c.args.base = omega (arith, ints) in
    c.in_range-then-exponent-eq1.ensures ∙ ap in_range (same ∙ sym (odd_power c.args.base c.args.exponent c.requires c.if-exponent-eq1.true))

pub returns-else-exponent-eq1 : goal.returns-else-exponent-eq1
returns-else-exponent-eq1 c =
    c.product.ensures
    ∙ ap in_range (sym (even_square c.args.base c.args.exponent c.requires c.if-exponent-eq0.false
    c.if-exponent-eq1.false))
