use Rattle.std.proofs.Common.{◌≡◌, ap, subst, sym}
use Rattle.formula_syntax.specs.Listing.{IsOnceEach}
use Rattle.sheet_model.specs.Changes.{ChangeValue}
use Rattle.sheet_model.specs.Sheets.{content_value}
use Rattle.edit_log.specs.Books.{AreRefsOf, HaveRefs}
use Rattle.sheet_model.specs.Ranges.{ranges_in}
use Rattle.edit_log.proofs.ReplaceLemmas.{refs_more}
use Rattle.edit_log.proofs.preparing.refs_of_all.Goals as goal

pub loop-change-preserved : goal.loop-change-preserved
loop-change-preserved c =
    let content : content_value c.change.inside.content ≡ c.change-item.result.content = ap (λ (x : ChangeValue). x.content) c.change.view_is in
    let one : AreRefsOf c.change-item.result c.in_ok-refs.refs = subst (λ x. IsOnceEach (ranges_in x) c.in_ok-refs.refs) content c.in_ok-refs.ensures in
    subst (HaveRefs _) (sym c.in_ok-push.ensures.items)
    (refs_more c.args.changes.now c.loop-change.all.items c.loop-change.change-index c.change-item.result
    c.in_ok-refs.refs c.loop-change-test.true c.change-item.is c.loop-change.invariant one)
