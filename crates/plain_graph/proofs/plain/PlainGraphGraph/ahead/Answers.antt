use Rattle.plain_graph.proofs.PairLemmas.{direct_is_ahead}
use Rattle.plain_graph.proofs.plain.PlainGraphGraph.ahead.Goals as goal

pub returns-clause-found : goal.returns-clause-found
returns-clause-found c =
    direct_is_ahead c.direct_dependents.result c.args.out.now.items c.direct_dependents.new.out.items
    c.args.self.now.pairs c.args.q c.direct_dependents.ensures.found
