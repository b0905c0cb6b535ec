use Rattle.std.proofs.Common.{arith, refl}
use Rattle.edit_log.proofs.RunLemmas.{follows_more}
use Rattle.edit_log.proofs.runs.follow.Goals as goal

pub loop-place-preserved : goal.loop-place-preserved
loop-place-preserved c =
    follows_more c.args.count c.loop-place.place c.args.first.now c.args.last.now c.args.next.now c.index-first-place.result
    c.index-last-place.result c.index-next-place.result c.requires.as_many (omega arith) (omega arith) c.index-first-place.is
    c.index-last-place.is c.index-next-place.is (c.if-not-range_follows.ensures refl) c.loop-place.invariant
