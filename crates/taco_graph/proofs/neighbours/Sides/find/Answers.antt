use Rattle.taco_graph.proofs.SideLemmas.{round_on}
use Rattle.taco_graph.proofs.neighbours.Sides.find.Goals as goal

pub find_longest-requires-clause-names : goal.find_longest-requires-clause-names
find_longest-requires-clause-names g c = c.ask_around.ensures.names c.args.cell c.requires.names

pub find_longest-requires-clause-round : goal.find_longest-requires-clause-round
find_longest-requires-clause-round g c = round_on c.args.edge.now.dep c.args.self.now c.ask_around.new.self c.ask_around.ensures.same c.requires.round
