use Rattle.std.proofs.Common.{◌≡◌, length, ◌∙◌, arith}
use Rattle.std.proofs.lemmas.Int.{ints}
use Rattle.live_gen.proofs.SumLemmas.{sum_all, sum_next}
use Rattle.live_gen.proofs.summing.sum_of_numbers.Goals as goal

pub loop-code-preserved : goal.loop-code-preserved
loop-code-preserved c =
    let below = c.loop-code-test.true in
    let count = c.requires.count in
    let cells = c.sizes-sizes.ensures.sheet.size.cells in
    let so_far = c.loop-code.invariant.bound in
    let one = c.number_of-sum.ensures.bound in
    let here = c.loop-code.invariant.sum_is in
    let next = sum_next c.args.sheet.now c.args.values.now c.requires c.loop-code.code-index c.number_of-sum.result below c.number_of-sum.ensures.number in
    record {
      sum_is = omega (arith, ints);
      bound = record { least = omega (arith, ints); most = omega (arith, ints) };
    }

pub returns-clause-sum : goal.returns-clause-sum
returns-clause-sum c =
    let past = c.loop-code-test.false in
    let most = c.loop-code.auto.code-index-end in
    let all : c.loop-code.code-index ≡ length c.args.values.now = omega arith in
    c.loop-code.invariant.sum_is ∙ sum_all c.args.sheet.now c.args.values.now c.requires c.loop-code.code-index all
