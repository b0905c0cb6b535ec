use Rattle.std.proofs.Common.{◌≡◌, take}
use Rattle.recalc_workers.specs.Hands.{IsHandOf, is_sole, sizes_of}
use Rattle.recalc_workers.specs.Offers.{AreOffered}
use Rattle.recalc_workers.proofs.hands.Jobs.offer_each.Given as goal

abbrev pub invariant-loop-place : goal.invariant-loop-place
invariant-loop-place g l =
    record {
      hand : IsHandOf l.self l.hand;
      sole : is_sole l.hand ≡ is_sole l.fn.hand;
      offered : AreOffered (sizes_of l.self) l.fn.hand (take l.place l.cells.items) l.hand;
    }
