use Rattle.std.proofs.Common.{◌+◌, ◌*◌, get_or, arith, refl, rules}
use Rattle.std.proofs.lemmas.Int.{ints}
use Rattle.formula_eval.proofs.BlockLemmas.{content_small, moved_more, moved_to}
use Rattle.formula_eval.proofs.lines.with_numbers.Goals as goal

pub loop-k-preserved : goal.loop-k-preserved
loop-k-preserved c =
    let word = get_or c.args.words.now (c.args.first + c.loop-k.k * c.args.step) 0 in
    let code = c.requires.line.coded c.loop-k.k c.loop-k-test.true in
    let small = content_small word code in
    let kind = rw c.new-word.ensures at c.off_number-others.ensures.number in
    let number = rw c.new-word.ensures at c.number-total.ensures in
    let bound = c.loop-k.invariant.1 in (
      λ none.
          moved_more c.args.sum c.args.words.now c.args.first c.args.step c.loop-k.k _ _ (c.loop-k.invariant.0 (omega (arith, none))) code
          (kind.0 (omega (arith, none)))
          (omega (arith, ints, number, small, bound, c.requires.few, c.loop-k-test.true)),
      omega (arith, ints, number, small, bound, c.requires.few, c.loop-k-test.true),
      omega (arith, c.loop-k.invariant.2, c.off_number-others.ensures.small),
    )

pub returns : goal.returns
returns c =
    moved_to c.args.sum c.args.words.now c.args.first c.args.step c.loop-k.k c.args.count _ _ _ (omega (arith, c.loop-k-test.false))
    (c.loop-k.invariant.0 (search rules))
    (omega (arith, ints, c.from.ensures, c.loop-k.invariant.1, c.requires.bounded.small, c.requires.room, c.requires.few)) refl
