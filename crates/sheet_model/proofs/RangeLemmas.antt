-- Which contents refer to ranges.
use Rattle.std.specs.declared.sync.Arc.{Arc}
use Rattle.std.proofs.Common.{Global, ◌≡◌, ◌≢◌, [], refl}
use Rattle.formula_syntax.specs.declared.tree.Formula.{Formula}
use Rattle.sheet_model.specs.Ranges.{ranges_in}
use Rattle.sheet_model.specs.Sheets.{content_value}
use Rattle.sheet_model.specs.declared.content.Content.{Content}

-- what is no formula refers to nothing
pub no_formula : (content : Content) → ((formula : Arc Formula Global) → content ≢ Content.Formula formula) → ranges_in (content_value content) ≡ []
no_formula Content.Empty not = refl
no_formula (Content.Number n) not = refl
no_formula (Content.Truth b) not = refl
no_formula (Content.Error kind) not = refl
no_formula (Content.Label place) not = refl
no_formula (Content.Formula formula) not = absurd (not formula refl)
