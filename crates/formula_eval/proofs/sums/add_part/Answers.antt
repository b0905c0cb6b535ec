use Rattle.formula_eval.proofs.BlockLemmas.{are_rows, block_items, err_items, ok_items}
use Rattle.formula_eval.proofs.sums.add_part.Goals as goal

pub add_block-requires-clause-rows : goal.add_block-requires-clause-rows
add_block-requires-clause-rows g c =
    are_rows (g.I.Inputs.sizes c.args.inputs.now) (g.I.Inputs.codes c.args.inputs.now) c.args.part c.in-Some.block
    c.requires.inside c.requires.plain c.in-Some.ensures c.rows_of-rows.result c.cols_of-cols.result c.rows_of-rows.ensures.rows c.cols_of-cols.ensures.cols

pub returns-in-Some-clause-ok : goal.returns-in-Some-clause-ok
returns-in-Some-clause-ok g c =
    ok_items c.add_block.result c.args.sum _ _
    (block_items (g.I.Inputs.sizes c.args.inputs.now) (g.I.Inputs.codes c.args.inputs.now) c.args.part c.in-Some.block
    c.requires.inside c.requires.plain c.in-Some.ensures c.rows_of-rows.result c.cols_of-cols.result c.rows_of-rows.ensures.rows c.cols_of-cols.ensures.cols)
    c.add_block.ensures.ok

pub returns-in-Some-clause-err : goal.returns-in-Some-clause-err
returns-in-Some-clause-err g c =
    err_items c.add_block.result _ _
    (block_items (g.I.Inputs.sizes c.args.inputs.now) (g.I.Inputs.codes c.args.inputs.now) c.args.part c.in-Some.block
    c.requires.inside c.requires.plain c.in-Some.ensures c.rows_of-rows.result c.cols_of-cols.result c.rows_of-rows.ensures.rows c.cols_of-cols.ensures.cols)
    c.add_block.ensures.err
