use Rattle.graph_walk.proofs.PathLemmas.{adds_more}
use Rattle.graph_walk.proofs.walk.next_ranges.Goals as goal

pub returns-in-Ahead : goal.returns-in-Ahead
returns-in-Ahead g c = rw c.in-Ahead.is c.ahead.ensures.found

pub returns-in-Behind : goal.returns-in-Behind
returns-in-Behind g c =
    rw c.in-Behind.is (adds_more c.behind.result c.args.out.now.items c.behind.new.out.items
    (g.G.Graph.pairs c.args.graph.now) c.args.range c.behind.ensures.found)
