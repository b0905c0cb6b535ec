use Rattle.std.proofs.Common.{◌≡◌, List, [], sym, subst}
use Rattle.std.proofs.lemmas.Result.{IfOk-weaker}
use Rattle.sheet_refs.specs.Cells.{Corners}
use Rattle.formula_syntax.specs.Listing.{IsOnceEach}
use Rattle.formula_syntax.specs.Listing.IsOnceEach.{nothing}
use Rattle.sheet_model.specs.Sheets.{content_value}
use Rattle.sheet_model.specs.Ranges.{ranges_in}
use Rattle.sheet_model.proofs.RangeLemmas.{no_formula}
use Rattle.sheet_model.proofs.content.Content.refs.Goals as goal

pub returns-in_default : goal.returns-in_default
returns-in_default c =
    let none : ranges_in (content_value c.args.self.now) ≡ [] = no_formula c.args.self.now c.in_default.not-Formula in
    IfOk-weaker c.of.result _ _ (λ refs is. subst (λ (rs : List Corners). IsOnceEach rs refs) (sym none) (subst (IsOnceEach []) (sym is) nothing)) c.of.ensures
