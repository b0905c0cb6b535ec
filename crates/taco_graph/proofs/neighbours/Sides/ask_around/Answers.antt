use Rattle.taco_graph.proofs.neighbours.Sides.ask_around.Goals as goal

pub returns-in-Ok-clause-names : goal.returns-in-Ok-clause-names
returns-in-Ok-clause-names g c cell before = c.in-Ok.ensures.names cell

pub returns-in-Err-clause-names : goal.returns-in-Err-clause-names
returns-in-Err-clause-names g c cell before = c.forget.ensures.names c.args.store.now.slots cell
