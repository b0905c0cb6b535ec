use Rattle.std.proofs.Common.{All, subst}
use Rattle.std.proofs.lemmas.List.{take_all}
use Rattle.sheet_model.proofs.ListLemmas.{all_taken_more}
use Rattle.edit_log.specs.Cycles.{Misses}
use Rattle.edit_log.proofs.cycles.misses_each.Goals as goal

pub loop-range-preserved : goal.loop-range-preserved
loop-range-preserved c =
    all_taken_more (Misses c.args.set.now) c.args.ranges.now c.loop-range.range-index c.range-item.result
    c.loop-range-test.true c.range-item.is c.loop-range.invariant (c.in_ok-apart.ensures c.if-not-apart.false)

pub returns : goal.returns
returns c = λ yes. subst (All (Misses c.args.set.now)) (take_all c.loop-range.range-index c.args.ranges.now c.loop-range-test.false) c.loop-range.invariant
