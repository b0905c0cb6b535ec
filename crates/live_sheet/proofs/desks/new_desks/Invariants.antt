use Rattle.std.proofs.Common.{◌≡◌, length, All}
use Rattle.live_sheet.specs.Opened.{IsNewDesk}
use Rattle.live_sheet.specs.Starts.{IsStart}
use Rattle.live_sheet.proofs.desks.new_desks.Given as goal

abbrev pub invariant-loop : goal.invariant-loop
invariant-loop g l =
    record {
      start : IsStart g.N.Naming.words g.N.Naming.queue g.N.Naming.opening l.marks l.editor l.jobs l.hand;
      count : length l.desks.items ≡ l.counter;
      new : All IsNewDesk l.desks.items;
    }
