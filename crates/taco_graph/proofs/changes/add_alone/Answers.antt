use Rattle.taco_graph.proofs.ChangeLemmas.{gains}
use Rattle.taco_graph.proofs.GrowthLemmas.{came_hold}
use Rattle.taco_graph.proofs.changes.add_alone.Goals as goal

pub returns-clause-pairs : goal.returns-clause-pairs
returns-clause-pairs g c = gains c.args.store.now.slots c.insert.new.self.slots c.args.edge c.insert.ensures.gained

pub returns-clause-holders : goal.returns-clause-holders
returns-clause-holders g c = came_hold c.args.store.now.slots c.insert.new.self.slots c.args.edge c.args.cell c.insert.ensures.gained
