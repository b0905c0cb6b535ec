use Rattle.plain_graph.proofs.PairLemmas.{direct_is_behind}
use Rattle.plain_graph.proofs.plain.PlainGraphGraph.behind.Goals as goal

pub returns-clause-found : goal.returns-clause-found
returns-clause-found c =
    direct_is_behind c.direct_precedents.result c.args.out.now.items c.direct_precedents.new.out.items
    c.args.self.now.pairs c.args.q c.direct_precedents.ensures.found
