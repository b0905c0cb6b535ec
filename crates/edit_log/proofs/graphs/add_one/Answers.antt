use Rattle.std.proofs.Common.{rules}
use Rattle.edit_log.proofs.WaitingLemmas.{cell_alone, cell_now}
use Rattle.edit_log.proofs.graphs.add_one.Goals as goal

pub returns-then-touches_a_row : goal.returns-then-touches_a_row
returns-then-touches_a_row g c =
    cell_alone c.args.sheet.now c.args.cell (g.G.Graph.pairs c.args.graph.now) c.args.waiting.now c.put_alone.new.self
    (search rules) (search rules) c.in_ok-put_alone.ensures.alone c.put_alone.ensures.across c.requires.before

pub returns : goal.returns
returns g c =
    cell_now c.args.sheet.now c.args.cell (g.G.Graph.pairs c.args.graph.now) (g.G.Graph.pairs c.add_alone.new.graph) c.args.waiting.now
    c.at.result.now (search rules) c.at.ensures.once c.in_ok-add_alone.ensures c.requires.before
