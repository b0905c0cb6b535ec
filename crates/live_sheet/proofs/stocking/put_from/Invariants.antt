use Rattle.mark_words.specs.Tokens.{IsSeatOf}
use Rattle.recalc_workers.specs.Settling.{KeepsEditor}
use Rattle.live_sheet.specs.Stored.{AreStored}
use Rattle.live_sheet.proofs.stocking.put_from.Given as goal

abbrev pub invariant-loop-place : goal.invariant-loop-place
invariant-loop-place l =
    record {
      table : IsSeatOf l.marks l.editor;
      editor : KeepsEditor l.fn.editor l.editor;
      slots : AreStored l.book.opening l.book.log l.slots.items;
    }
