use Rattle.std.proofs.Common.{◌≡◌, arith}
use Rattle.edit_log.proofs.WaitingLemmas.{column_done, column_on, pairs_at}
use Rattle.edit_log.proofs.graphs.add_column.Goals as goal

pub add_from-requires-clause-before : goal.add_from-requires-clause-before
add_from-requires-clause-before g c =
    let at : (c.unwrap-cell.result.row ≡ c.loop-row.row) × (c.unwrap-cell.result.col ≡ c.args.col) = rw c.unwrap-cell.ensures at c.new.ensures.position in
    pairs_at c.args.sheet.now c.unwrap-cell.result c.loop-row.row c.args.col (g.G.Graph.pairs c.loop-row.graph) c.loop-row.waiting at.0 at.1
    c.loop-row.invariant.1

pub loop-row-preserved : goal.loop-row-preserved
loop-row-preserved g c =
    let at : (c.unwrap-cell.result.row ≡ c.loop-row.row) × (c.unwrap-cell.result.col ≡ c.args.col) = rw c.unwrap-cell.ensures at c.new.ensures.position in (
      omega arith,
      column_on c.args.sheet.now c.unwrap-cell.result c.loop-row.row c.args.col (g.G.Graph.pairs c.add_from.new.graph) c.add_from.new.waiting
          c.in_ok-row.field-0 at.0 at.1 c.in_ok-row.ensures.before,
    )

pub returns : goal.returns
returns g c = column_done c.args.sheet.now c.args.col c.loop-row.row (g.G.Graph.pairs c.loop-row.graph) c.loop-row.waiting
    (omega (arith, c.loop-row-test.false, c.rows.ensures.rows)) c.loop-row.invariant.1
