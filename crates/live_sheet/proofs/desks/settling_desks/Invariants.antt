use Rattle.std.proofs.Common.{◌≡◌, length, All}
use Rattle.live_sheet.specs.Held.{IsDeskIn}
use Rattle.live_sheet.specs.Starts.{IsStart}
use Rattle.live_sheet.proofs.desks.settling_desks.Given as goal

abbrev pub invariant-loop : goal.invariant-loop
invariant-loop g l =
    record {
      start : IsStart g.N.Naming.words g.N.Naming.queue g.N.Naming.opening l.marks l.editor l.jobs l.hand;
      count : length l.desks.items ≡ l.counter;
      desks : All (IsDeskIn g.N.Naming.words g.N.Naming.queue g.N.Naming.opening g.N.Naming.opening.sizes) l.desks.items;
    }
