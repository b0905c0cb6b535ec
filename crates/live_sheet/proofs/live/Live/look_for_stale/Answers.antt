-- A desk that was told the log looks round.
use Rattle.std.proofs.Common.{sym, subst}
use Rattle.sheet_model.specs.Sheets.{IsSheetSize}
use Rattle.live_sheet.proofs.SliceLemmas.{if_ok_then, looked_on, settled_round, visited_keeps}
use Rattle.live_sheet.proofs.live.Live.look_for_stale.Goals as goal

pub look_round-requires-clause-sizes : goal.look_round-requires-clause-sizes
look_round-requires-clause-sizes g c κs = subst IsSheetSize (sym c.sizes.ensures.sizes) c.tell_worker-count.ensures.sizes

pub returns-clause-looked : goal.returns-clause-looked
returns-clause-looked g c =
    looked_on c.args.desk.now.desk c.tell_worker-count.new.desk c.look_round.new.desk c.tell_worker-count.ensures.looked
    (visited_keeps c.tell_worker-count.new.desk c.look_round.new.desk c.look_round.ensures.visited)

pub returns-clause-settled : goal.returns-clause-settled
returns-clause-settled g c =
    if_ok_then _ _ c.look_round.result
    (λ seen all clear.
    settled_round g.N.Naming.opening c.args.desk.now.desk c.tell_worker-count.new.desk c.look_round.new.desk
    c.tell_worker-count.new.self.book.log c.tell_worker-count.ensures.covers c.tell_worker-count.ensures.log
    c.look_round.ensures.visited (all clear))
    (rw (c.args.self.now.subject, c.sizes.ensures.sizes) at c.look_round.ensures.clear)
