use Rattle.std.proofs.Common.{◌≡◌, true, false, rules}
use Rattle.sheet_refs.specs.Cells.{IsIn}
use Rattle.graph_trial.proofs.RunLemmas.{lack_put}
use Rattle.graph_trial.proofs.runs.put.Goals as goal

pub returns : goal.returns
returns g c =
    let test : c.contains.result ≡ false = search rules in
    let out : ¬ IsIn c.args.at c.args.run = λ inside. let yes : c.contains.result ≡ true = c.contains.ensures.1 inside in absurd cc in
    lack_put (g.G.Graph.pairs c.args.graph.now) (g.G.Graph.pairs c.reserve.new.self) (g.G.Graph.pairs c.replace.new.self)
    c.args.run c.args.at c.args.refs.now c.in_ok-reserve.ensures.same c.replace.ensures.replaced out c.requires
