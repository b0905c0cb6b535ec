use Rattle.recalc_workers.proofs.SideLemmas.{changes_one}
use Rattle.recalc_workers.proofs.side_by_side.side_by_side.Goals as goal

pub returns-then-list-eq1-clause-each : goal.returns-then-list-eq1-clause-each
returns-then-list-eq1-clause-each g c =
    changes_one g.F.Fn c.args.f.now c.args.list.now c.index-list-0.result c.at_one.new.it c.if-list-eq1.true c.at_one.ensures.call
