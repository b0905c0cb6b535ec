use Rattle.std.proofs.Common.{rules}
use Rattle.graph_walk.proofs.GatherLemmas.{run_goes_on, run_ends}
use Rattle.graph_walk.proofs.gathering.run_from.Goals as goal

pub loop-place-preserved : goal.loop-place-preserved
loop-place-preserved c =
    run_goes_on c.args.found.now c.args.from c.loop-place.place c.loop-place.run c.index-found-place.result c.in-Some.longer
    (search rules) c.index-found-place.is c.in-Some.ensures c.loop-place.invariant

pub returns-clause-run : goal.returns-clause-run
returns-clause-run c = run_ends c.args.found.now c.args.from c.loop-place.place c.loop-place.run c.loop-place-test.false c.loop-place.invariant
