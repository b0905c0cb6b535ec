use Rattle.std.proofs.Common.{ap, ◌∙◌}
use Rattle.sheet_model.specs.Sheets.{SheetValue}
use Rattle.sheet_model.proofs.LogLemmas.{after-sizes}
use Rattle.live_sheet.proofs.settle_range.opening_sizes.Goals as goal

pub returns-clause-sizes : goal.returns-clause-sizes
returns-clause-sizes g c =
    c.sizes.ensures.sizes ∙ ap (λ (s : SheetValue). s.sizes) (c.sheet.ensures.sheet ∙ c.sheet.ensures.kept.replayed)
    ∙ after-sizes c.args.book.now.opening c.args.book.now.log

pub returns-clause-same : goal.returns-clause-same
returns-clause-same g c = ap (λ (s : SheetValue). s.sizes) c.sheet.ensures.kept.replayed ∙ after-sizes c.args.book.now.opening c.args.book.now.log
