use Rattle.std.proofs.Common.{◌≡◌, ◌+◌}
use Rattle.live_sheet.specs.Opened.{AreNewPasses}
use Rattle.live_sheet.specs.Starts.{IsStart}
use Rattle.live_sheet.proofs.passes.new_passes.Given as goal

abbrev pub invariant-loop : goal.invariant-loop
invariant-loop g l =
    record {
      start : IsStart g.N.Naming.words g.N.Naming.queue g.N.Naming.opening l.marks l.editor l.jobs l.hand;
      passes : AreNewPasses l.counter l.passes.items;
      parts : l.share.parts + l.counter ≡ l.clients + 1;
      none : l.share.amount ≡ 0;
    }
