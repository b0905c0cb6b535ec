use Rattle.taco_graph.proofs.AroundLemmas.{name_within}
use Rattle.taco_graph.proofs.neighbours.Sides.ask_within.Goals as goal

pub returns-clause-names : goal.returns-clause-names
returns-clause-names g c cell =
    name_within c.args.store.now.slots c.args.q c.keys_by_run.new.keys.items cell c.give_keys.new.self c.note_asked.new.self
    c.in_ok-keys_by_run.ensures.named c.in_ok-give_keys.ensures.all c.note_asked.ensures.kept c.note_asked.ensures.within
