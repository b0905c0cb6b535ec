use Rattle.std.proofs.Common.{◌≡◌, IsTrue, subst}
use Rattle.sheet_refs.specs.Sizes.{is_inside, place_of}
use Rattle.sheet_refs.specs.declared.sizes.Sizes.{Sizes}
use Rattle.play_machine.proofs.QueueLemmas.{next_placed}
use Rattle.play_machine.proofs.queue.Queue.of.Goals as goal

pub loop-place-preserved : goal.loop-place-preserved
loop-place-preserved c =
    let inside = subst (λ (s : Sizes). IsTrue (is_inside s c.cell_at.result)) c.sizes-sizes.ensures.sizes c.cell_at.ensures.inside in
    let here = subst (λ (s : Sizes). place_of s c.cell_at.result ≡ c.loop-place.place) c.sizes-sizes.ensures.sizes c.cell_at.ensures.place in
    next_placed c.args.sheet.now c.args.marks.now c.loop-place.place c.cell_at.result c.loop-place.queue c.add.new.self
    here inside c.in_ok-add.ensures c.loop-place.invariant
