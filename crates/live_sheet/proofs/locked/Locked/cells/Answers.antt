-- The sheet has the sizes of the opening sheet.
use Rattle.std.proofs.Common.{◌∙◌, ap}
use Rattle.sheet_refs.specs.Sizes.{cell_count}
use Rattle.sheet_model.specs.Sheets.{SheetValue}
use Rattle.live_sheet.proofs.CauseLemmas.{sizes_now}
use Rattle.live_sheet.proofs.locked.Locked.cells.Goals as goal

pub returns : goal.returns
returns g c =
    let me = c.args.self.now in
    ap cell_count (c.sizes-sizes.ensures.sizes ∙ ap (λ (s : SheetValue). s.sizes) c.sheet.ensures.sheet
    ∙ sizes_now g.N.Naming.opening me.book.opening me.book.sheet me.book.log c.length.ensures.kept.replayed
    me.opening)
