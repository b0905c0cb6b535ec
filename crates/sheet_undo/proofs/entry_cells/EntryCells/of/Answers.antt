use Rattle.std.proofs.Common.{◌<◌, length, All, IsTrue, ap, arith, subst, sym}
use Rattle.sheet_refs.specs.Sizes.{is_inside}
use Rattle.sheet_refs.specs.declared.sizes.Sizes.{Sizes}
use Rattle.sheet_model.specs.Changes.{ChangeValue}
use Rattle.sheet_undo.proofs.FindLemmas.{finds_next}
use Rattle.sheet_undo.proofs.entry_cells.EntryCells.of.Goals as goal

pub loop-place-preserved : goal.loop-place-preserved
loop-place-preserved c =
    let below : c.loop-place.place < length c.args.changes.now = omega (arith, c.loop-place-test.true) in
    let inside : All (λ (x : ChangeValue). IsTrue (is_inside c.sizes-sizes.result x.cell)) c.args.changes.now =
    subst (λ (s : Sizes). All (λ (x : ChangeValue). IsTrue (is_inside s x.cell)) c.args.changes.now) (sym c.sizes-sizes.ensures.sizes) c.requires.inside in
    finds_next c.sizes-sizes.result c.args.changes.now c.loop-place.place c.place.result c.index-changes-place.result c.change.inside.cell
    c.loop-place.places c.insert.new.self below c.index-changes-place.is
    (ap (λ (x : ChangeValue). x.cell) c.change.view_is) c.requires.distinct inside c.place.ensures.place c.loop-place.invariant
    c.in_ok-insert.ensures.updates
