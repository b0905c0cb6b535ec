use Rattle.std.proofs.Common.{◌+◌, ◌∙◌, sym, ap, subst}
use Rattle.std.specs.Prelude.{IfSome, IsTrue}
use Rattle.sheet_refs.specs.Sizes.{is_inside, place_of}
use Rattle.recalc_trial.specs.Offices.{AreOpeningCodes, IsCodeOfConstant}
use Rattle.recalc_trial.proofs.OpeningLemmas.{one_code_more}
use Rattle.recalc_trial.proofs.opening.opening_codes.Goals as goal

pub loop-place-preserved : goal.loop-place-preserved
loop-place-preserved c =
    let sheet = c.args.sheet.now in
    let cell = c.cell_at.result in
    subst (AreOpeningCodes sheet (c.loop-place.place + 1)) (sym c.in_ok-push.ensures.items)
    (one_code_more sheet cell c.loop-place.place c.loop-place.codes.items c.opening_code.result c.sizes-sizes.ensures.sheet
    (subst (λ s. IsTrue (is_inside s cell)) c.sizes-sizes.ensures.sizes c.cell_at.ensures.inside)
    (ap (λ s. place_of s cell) (sym c.sizes-sizes.ensures.sizes) ∙ c.cell_at.ensures.place)
    c.loop-place.invariant (subst (λ k. IfSome c.opening_code.result (IsCodeOfConstant k)) c.content.ensures.content c.opening_code.ensures))
