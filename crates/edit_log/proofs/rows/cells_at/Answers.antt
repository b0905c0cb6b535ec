use Rattle.std.proofs.Common.{subst}
use Rattle.std.proofs.lemmas.List.{take_all}
use Rattle.edit_log.specs.Rows.{AreCellsAt}
use Rattle.edit_log.proofs.RowLemmas.{cells_more}
use Rattle.edit_log.proofs.rows.cells_at.Goals as goal

pub loop-place-preserved : goal.loop-place-preserved
loop-place-preserved c =
    rw c.in_ok-push.ensures.items (cells_more c.args.sizes c.args.places.now c.loop-place.place-index _
    c.loop-place.cells.items c.cell_at-cell.result c.loop-place.invariant c.loop-place-test.true
    c.cell_at-cell.ensures.place c.cell_at-cell.ensures.inside)

pub returns : goal.returns
returns c =
    subst (λ places. AreCellsAt c.args.sizes places c.loop-place.cells.items)
    (take_all c.loop-place.place-index c.args.places.now c.loop-place-test.false) c.loop-place.invariant
