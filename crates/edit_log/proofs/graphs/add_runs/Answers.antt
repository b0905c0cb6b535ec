use Rattle.std.proofs.Common.{arith}
use Rattle.edit_log.proofs.WaitingLemmas.{all_done, none_yet}
use Rattle.edit_log.proofs.graphs.add_runs.Goals as goal

pub loop-col-init : goal.loop-col-init
loop-col-init g c = none_yet c.args.sheet.now (g.G.Graph.pairs c.args.graph.now) c.args.waiting.now c.requires.pairs c.requires.places

pub returns : goal.returns
returns g c = all_done c.args.sheet.now c.loop-col.col (g.G.Graph.pairs c.loop-col.graph) c.loop-col.waiting
    (omega (arith, c.loop-col-test.false, c.cols-col-end.ensures.cols)) c.loop-col.invariant
