use Rattle.std.proofs.Common.{All, subst}
use Rattle.std.proofs.lemmas.List.{take_all}
use Rattle.sheet_model.proofs.ListLemmas.{all_taken_more}
use Rattle.edit_log.specs.Cycles.{Misses, MissesAll}
use Rattle.edit_log.proofs.cycles.misses_all.Goals as goal

pub loop-one-preserved : goal.loop-one-preserved
loop-one-preserved c =
    all_taken_more (All (Misses c.args.set.now)) c.args.refs.now c.loop-one.one-index c.one-item.result
    c.loop-one-test.true c.one-item.is c.loop-one.invariant
    (subst (All (Misses c.args.set.now)) c.ranges-in-loop-one.ensures.ranges (c.in_ok-apart.ensures c.if-not-apart.false))

pub returns : goal.returns
returns c = λ yes. subst (MissesAll c.args.set.now) (take_all c.loop-one.one-index c.args.refs.now c.loop-one-test.false) c.loop-one.invariant
