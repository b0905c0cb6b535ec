use Rattle.std.proofs.Common.{◌≡◌, ◌+◌, ◌*◌, ◌∷◌, [], ap, arith, get_or, sym, ◌∙◌}
use Rattle.std.proofs.lemmas.Option.{MatchOption-at_some}
use Rattle.std.proofs.lemmas.Result.{err_from_is_err_and}
use Rattle.value_core.specs.declared.value.Value.{Value}
use Rattle.formula_syntax.specs.declared.functions.Function.TheVariants.{Sum as SumOf}
use Rattle.formula_eval.specs.Blocks.{line_of, items_of_words}
use Rattle.formula_eval.specs.Functions.{contributions}
use Rattle.formula_eval.specs.Items.{items_of_cells}
use Rattle.formula_eval.specs.Sums.{tally_of}
use Rattle.formula_eval.proofs.BlockLemmas.{adds_all, adds_joined, decoded, decodes, errs_all, errs_before, errs_later, line_few, line_more, line_split}
use Rattle.formula_eval.proofs.TallyLemmas.{adds_same}
use Rattle.formula_eval.proofs.lines.with_values.Goals as goal

pub unwrap-value-requires : goal.unwrap-value-requires
unwrap-value-requires c =
    decodes (get_or c.args.words.now (c.args.first + c.loop-k.k * c.args.step) 0) c.decode.result c.decode.ensures
    (c.requires.line.coded c.loop-k.k c.loop-k-test.true)

pub with_cell-requires-clause-room : goal.with_cell-requires-clause-room
with_cell-requires-clause-room c =
    omega (
      arith,
      c.loop-k.invariant.count,
      line_few c.args.words.now c.args.first c.args.step c.loop-k.k,
      c.requires.room,
      c.loop-k-test.true,
    )

pub returns-in_err-more-clause-err : goal.returns-in_err-more-clause-err
returns-in_err-more-clause-err c =
    let p = err_from_is_err_and c.from_residual.result c.from_residual.ensures.1 in
    let word = get_or c.args.words.now (c.args.first + c.loop-k.k * c.args.step) 0 in
    let value = decoded word c.unwrap-value.result (MatchOption-at_some _ _ c.unwrap-value.result c.unwrap-value.ensures c.decode.ensures) in
    let here = ap (λ (v : Value). contributions SumOf (items_of_cells (v ∷ []))) (sym value) ∙ c.in_err-more.ensures.err in
    let kind = c.in_err-more.field-0.0 in
    rw (p.1, p.2)
    (errs_all _ _ kind (line_split c.args.words.now c.args.first c.args.step c.loop-k.k c.args.count c.loop-k-test.true)
    (errs_later c.args.sum c.loop-k.more (line_of c.args.words.now c.args.first c.args.step c.loop-k.k) _ kind c.loop-k.invariant
    (errs_before (word ∷ []) _ kind here)))

pub loop-k-preserved : goal.loop-k-preserved
loop-k-preserved c =
    let word = get_or c.args.words.now (c.args.first + c.loop-k.k * c.args.step) 0 in
    let value = decoded word c.unwrap-value.result (MatchOption-at_some _ _ c.unwrap-value.result c.unwrap-value.ensures c.decode.ensures) in
    let same : items_of_words (word ∷ []) ≡ items_of_cells (c.unwrap-value.result ∷ []) = ap (λ (v : Value). items_of_cells (v ∷ [])) (sym value) in
    adds_all c.args.sum c.in_ok-more.more _ _ (line_more c.args.words.now c.args.first c.args.step c.loop-k.k)
    (adds_joined c.args.sum c.loop-k.more c.in_ok-more.more (line_of c.args.words.now c.args.first c.args.step c.loop-k.k) (word ∷ []) c.loop-k.invariant
    (adds_same SumOf (tally_of c.loop-k.more) (tally_of c.in_ok-more.more) _ _ same c.in_ok-more.ensures.ok))
