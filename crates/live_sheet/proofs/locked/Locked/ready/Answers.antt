-- What is known of all cells of the book's opening sheet is known of those of the opening sheet.
use Rattle.std.proofs.Common.{subst}
use Rattle.mark_words.specs.Tokens.{view_of}
use Rattle.edit_log.specs.Touches.{TouchesPlace}
use Rattle.sheet_model.specs.Sheets.{SheetValue}
use Rattle.live_sheet.specs.Ranges.{KnowsAll}
use Rattle.live_sheet.proofs.ClosingLemmas.{on_ok}
use Rattle.live_sheet.proofs.locked.Locked.ready.Goals as goal

pub returns-clause-settled : goal.returns-clause-settled
returns-clause-settled g c =
    on_ok c.new.result
    (subst (λ (o : SheetValue). KnowsAll (TouchesPlace o) o.sizes (view_of c.settle_whole.new.editor)) c.args.self.now.opening
    c.in_ok-settle_whole.ensures.clean)
