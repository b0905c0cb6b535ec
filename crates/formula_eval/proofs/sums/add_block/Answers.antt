use Rattle.std.proofs.Common.{◌≡◌, ◌∙◌, ℕ, ap, subst, rules}
use Rattle.formula_eval.specs.Blocks.{AreRows, block_of, items_of_words}
use Rattle.formula_eval.proofs.BlockLemmas.{column_line, column_words, err_items, ok_items}
use Rattle.formula_eval.proofs.sums.add_block.Goals as goal

pub with_line-requires-clause-line : goal.with_line-requires-clause-line
with_line-requires-clause-line c =
    let one : c.args.cols ≡ 1 = search rules in
    column_line c.args.words.now c.args.step c.args.rows (subst (λ (n : ℕ). AreRows c.args.words.now c.args.step c.args.rows n) one c.requires.rows)

pub returns-then-cols-eq1-clause-ok : goal.returns-then-cols-eq1-clause-ok
returns-then-cols-eq1-clause-ok c =
    let one : c.args.cols ≡ 1 = search rules in
    ok_items c.with_line.result c.args.sum _ _
    (ap items_of_words (ap (block_of c.args.words.now 0 c.args.step c.args.rows) one ∙ column_words c.args.words.now 0 c.args.step c.args.rows))
    c.with_line.ensures.ok

pub returns-then-cols-eq1-clause-err : goal.returns-then-cols-eq1-clause-err
returns-then-cols-eq1-clause-err c =
    let one : c.args.cols ≡ 1 = search rules in
    err_items c.with_line.result _ _
    (ap items_of_words (ap (block_of c.args.words.now 0 c.args.step c.args.rows) one ∙ column_words c.args.words.now 0 c.args.step c.args.rows))
    c.with_line.ensures.err
