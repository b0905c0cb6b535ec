use Rattle.mark_words.specs.Tokens.{subject_of}
use Rattle.recalc_workers.proofs.PartLemmas.{part_goes_on}
use Rattle.recalc_workers.proofs.settle_cells.settle_part.Goals as goal

pub loop-place-preserved : goal.loop-place-preserved
loop-place-preserved g c =
    part_goes_on c.args.marks.now (g.S.Subject.touches (subject_of c.args.marks.now)) c.args.level.sizes
    c.args.level.cells.now c.args.desk.now c.args.part.0 c.loop-place.desk c.settle_cell.new.desk
    c.loop-place.place c.index-level-place.result c.loop-place.invariant c.settle_cell.ensures.table c.settle_cell.ensures.works c.in-Ok.ensures.known
