use Rattle.sheet_refs.specs.Cells.{cells_of}
use Rattle.edit_log.proofs.RowLemmas.{places_more}
use Rattle.edit_log.proofs.rows.push_places.Goals as goal

pub loop-k-preserved : goal.loop-k-preserved
loop-k-preserved c =
    rw c.in_ok-push.ensures.items (places_more c.args.sizes (cells_of c.args.run) c.loop-k.k c.cell_at.result
    c.args.places.now.items c.loop-k.places.items c.place-place.result c.loop-k.invariant c.cell_at.ensures.listed
    c.place-place.ensures.place)
