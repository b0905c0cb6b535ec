use Rattle.std.proofs.Common.{All}
use Rattle.mark_words.specs.Tokens.{IsSeatOf}
use Rattle.recalc_workers.specs.Settling.{AreInside, KeepsEditor}
use Rattle.sheet_model.specs.KeptValues.{HoldsValue}
use Rattle.live_sheet.proofs.settle_range.stale_found.Given as goal

abbrev pub invariant-loop-cell : goal.invariant-loop-cell
invariant-loop-cell g l =
    record {
      table : IsSeatOf l.marks l.editor;
      kept : KeepsEditor l.fn.editor l.editor;
      inside : AreInside l.sheet.sizes l.stale.items;
      held : All (HoldsValue l.sheet.sizes l.values) l.stale.items;
    }
