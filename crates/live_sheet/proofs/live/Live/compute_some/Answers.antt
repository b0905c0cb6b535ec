-- A desk that was told the log puts values.
use Rattle.std.proofs.Common.{◌∙◌}
use Rattle.edit_log.specs.Touches.{TouchesPlace}
use Rattle.recalc_workers.specs.Desks.{seat_of}
use Rattle.recalc_workers.proofs.SeatLemmas.{keeps_on}
use Rattle.recalc_workers.proofs.VisitLemmas.{finished_since}
use Rattle.live_sheet.proofs.live.Live.compute_some.Goals as goal

pub returns-clause-keeps : goal.returns-clause-keeps
returns-clause-keeps g c =
    record {
      seat = keeps_on (seat_of c.args.desk.now.desk) (seat_of c.slice-made.new.desk) (seat_of c.put_all.new.desk)
          c.slice-made.ensures.looked.kept.seat c.put_all.ensures.works.seat.keeps;
      free = c.put_all.ensures.works.seat.free;
    }

pub returns-clause-sliced : goal.returns-clause-sliced
returns-clause-sliced g c =
    record {
      hand = c.put_all.ensures.works.hand ∙ c.slice-made.ensures.looked.kept.hand;
      finished = finished_since (TouchesPlace g.N.Naming.opening) (seat_of c.args.desk.now.desk) (seat_of c.slice-made.new.desk)
          (seat_of c.put_all.new.desk) c.slice-made.ensures.looked.idle.done (rw (c.args.self.now.subject) at c.put_all.ensures.finished);
    }
