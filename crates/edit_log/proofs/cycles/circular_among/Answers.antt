use Rattle.std.proofs.Common.{IsTrue, sym, ap, subst, ◌∙◌}
use Rattle.std.proofs.lemmas.Option.{slice_get-get_or}
use Rattle.sheet_refs.specs.Sizes.{is_inside, place_of}
use Rattle.sheet_refs.specs.declared.sizes.Sizes.{Sizes}
use Rattle.edit_log.proofs.CycleLemmas.{all_held, next_held}
use Rattle.edit_log.proofs.cycles.circular_among.Goals as goal

pub loop-place-preserved : goal.loop-place-preserved
loop-place-preserved c =
    next_held c.args.sheet.now c.args.codes.now c.loop-place.place c.loop-place.set c.add_where_circular.new.set
    c.cell_at-cell.result _ c.in_ok-add_where_circular.ensures c.requires
    (slice_get-get_or c.args.codes.now c.loop-place.place _ c.loop-place-test.true)
    (subst (λ (s : Sizes). IsTrue (is_inside s c.cell_at-cell.result)) c.sizes-sizes.ensures.sizes c.cell_at-cell.ensures.inside)
    (ap (λ (s : Sizes). place_of s c.cell_at-cell.result) (sym c.sizes-sizes.ensures.sizes) ∙ c.cell_at-cell.ensures.place)
    c.loop-place.invariant

pub returns : goal.returns
returns c = all_held c.args.sheet.now c.args.codes.now c.loop-place.place c.loop-place.set c.requires
    c.loop-place-test.false c.loop-place.invariant
