use Rattle.graph_walk.proofs.GatherLemmas.{gathers_none, gathers_both, gathers_end}
use Rattle.graph_walk.proofs.gathering.gather.Goals as goal

pub loop-place-init : goal.loop-place-init
loop-place-init c = gathers_none c.args.set.now c.args.waiting.now.items

pub loop-place-preserved : goal.loop-place-preserved
loop-place-preserved c =
    gathers_both c.args.set.now c.loop-place.set c.admit.new.set c.args.waiting.now.items c.loop-place.waiting.items
    c.admit.new.waiting.items c.run_from-run.ensures.run c.loop-place.invariant c.in_ok-admit.ensures

pub returns : goal.returns
returns c = gathers_end c.args.set.now c.loop-place.set c.args.waiting.now.items c.loop-place.waiting.items
    c.args.found.now c.loop-place.place c.loop-place-test.false c.loop-place.invariant
