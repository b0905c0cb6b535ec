use Rattle.std.proofs.Common.{◌<◌, arith}
use Rattle.sheet_refs.proofs.SpanLemmas.{greater_of, span_joined}
use Rattle.sheet_refs.proofs.column.span_of.Goals as goal

pub returns : goal.returns
returns c =
    let most = greater_of _ _ _ c.max-end.ensures in
    let rows = c.requires.rows in
    let found = c.in-Some.ensures in
    let later : c.args.first < c.in-Some.run'.0 = (let not = c.if-run-first-2.false in omega arith) in
    span_joined _ _ _ c.requires.spaced.spaced rows.0 rows.1 rows.2 _ _ found.0 found.1 found.2 _ most.b_to most.a_to most.one _ c.start_of.ensures later
