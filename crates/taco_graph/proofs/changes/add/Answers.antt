use Rattle.taco_graph.proofs.JoinableLemmas.{named_on}
use Rattle.taco_graph.proofs.SideLemmas.{round_on}
use Rattle.taco_graph.proofs.changes.add.Goals as goal

pub returns-in_default-clause-names : goal.returns-in_default-clause-names
returns-in_default-clause-names g c =
    named_on c.args.store.now.slots c.add_alone.new.store.slots c.args.edge c.args.cell c.find.new.self c.add_alone.ensures.joined c.find.ensures.names

pub returns-in_default-clause-round : goal.returns-in_default-clause-round
returns-in_default-clause-round g c = round_on c.args.edge.dep c.args.sides.now c.find.new.self c.find.ensures.same c.requires.round

pub find_beyond-requires-clause-round : goal.find_beyond-requires-clause-round
find_beyond-requires-clause-round g c = round_on c.args.edge.dep c.args.sides.now c.find.new.self c.find.ensures.same c.requires.round

pub returns-in_default-find_beyond-clause-names : goal.returns-in_default-find_beyond-clause-names
returns-in_default-find_beyond-clause-names g c =
    named_on c.args.store.now.slots c.grow.new.store.slots c.args.edge c.args.cell c.find_beyond.new.self c.grow.ensures.joined c.find_beyond.ensures.names

pub returns-in_default-find_beyond-clause-round : goal.returns-in_default-find_beyond-clause-round
returns-in_default-find_beyond-clause-round g c =
    round_on c.args.edge.dep c.find.new.self c.find_beyond.new.self c.find_beyond.ensures.same
    (round_on c.args.edge.dep c.args.sides.now c.find.new.self c.find.ensures.same c.requires.round)

pub returns-clause-names : goal.returns-clause-names
returns-clause-names g c =
    named_on c.args.store.now.slots c.grow_across.new.store.slots c.args.edge c.args.cell c.find_beyond.new.self
    c.grow_across.ensures.joined c.find_beyond.ensures.names

pub returns-clause-round : goal.returns-clause-round
returns-clause-round g c =
    round_on c.args.edge.dep c.find.new.self c.find_beyond.new.self c.find_beyond.ensures.same
    (round_on c.args.edge.dep c.args.sides.now c.find.new.self c.find.ensures.same c.requires.round)
