use Rattle.std.proofs.Common.{IsTrue, ap, sym, subst, ◌∙◌}
use Rattle.sheet_refs.specs.Sizes.{is_inside}
use Rattle.sheet_refs.specs.declared.sizes.Sizes.{Sizes}
use Rattle.sheet_model.specs.Sheets.{IsSheetSize}
use Rattle.live_sheet.proofs.DeskLemmas.{desks_themselves, on_ok_then}
use Rattle.live_sheet.proofs.whole.settle_whole.Goals as goal

pub settle_range-requires-clause-inside : goal.settle_range-requires-clause-inside
settle_range-requires-clause-inside g c κs within = λ cell inside.
    subst (λ (s : Sizes). IsTrue (is_inside s cell)) c.opening_sizes.ensures.sizes ((c.in-Some.ensures cell).0 inside)
