use Rattle.std.proofs.Common.{◌*◌, arith}
use Rattle.std.proofs.lemmas.Result.{err_from_is_err_and}
use Rattle.formula_eval.specs.Blocks.{block_of, line_of}
use Rattle.formula_eval.proofs.BlockLemmas.{adds_all, adds_joined, block_more, block_split, errs_all, errs_before, errs_later}
use Rattle.formula_eval.proofs.sums.add_rows.Goals as goal

pub loop-row-preserved : goal.loop-row-preserved
loop-row-preserved c = (
  adds_all c.args.sum c.in_ok-more.more _ _ (block_more c.args.words.now c.args.step c.loop-row.row c.args.cols)
      (adds_joined c.args.sum c.loop-row.more c.in_ok-more.more (block_of c.args.words.now 0 c.args.step c.loop-row.row c.args.cols)
      (line_of c.args.words.now (c.loop-row.row * c.args.step) 1 c.args.cols) c.loop-row.invariant.0 c.in_ok-more.ensures.ok),
  omega (arith, c.loop-row.invariant.1, c.in_ok-more.ensures.few, c.requires.wide),
)

pub returns-in_err-more-clause-err : goal.returns-in_err-more-clause-err
returns-in_err-more-clause-err c =
    let p = err_from_is_err_and c.from_residual.result c.from_residual.ensures.1 in
    let kind = c.in_err-more.field-0.0 in
    rw (p.1, p.2)
    (errs_all _ _ kind (block_split c.args.words.now c.args.step c.loop-row.row c.args.rows c.args.cols c.loop-row-test.true)
    (errs_later c.args.sum c.loop-row.more (block_of c.args.words.now 0 c.args.step c.loop-row.row c.args.cols) _ kind c.loop-row.invariant.0
    (errs_before (line_of c.args.words.now (c.loop-row.row * c.args.step) 1 c.args.cols) _ kind c.in_err-more.ensures.err)))
