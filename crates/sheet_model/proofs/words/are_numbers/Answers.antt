use Rattle.std.proofs.Common.{◌+◌, ◌*◌, get_or, arith}
use Rattle.sheet_model.proofs.LineLemmas.{numbers_next}
use Rattle.sheet_model.proofs.words.are_numbers.Goals as goal

pub loop-k-preserved : goal.loop-k-preserved
loop-k-preserved c =
    let word = get_or c.args.words.now (c.args.first + c.loop-k.k * c.args.step) 0 in
    let kind = rw c.new.ensures at c.off_number-others.ensures.number in (
      λ none.
          numbers_next c.args.words.now c.args.first c.args.step c.loop-k.k (c.loop-k.invariant.0 (omega (arith, none))) (kind.0 (omega (arith, none))),
      omega (arith, c.loop-k.invariant.1, c.off_number-others.ensures.small),
    )
