use Rattle.taco_graph.proofs.ChangeLemmas.{is_there}
use Rattle.taco_graph.proofs.GrowthLemmas.{grown_apart, grown_hold, grown_pairs}
use Rattle.taco_graph.proofs.JoinableLemmas.{adds_grown}
use Rattle.taco_graph.proofs.changes.grow.Goals as goal

pub change-requires-clause-there : goal.change-requires-clause-there
change-requires-clause-there g c = is_there c.args.store.now.slots c.args.key c.requires.joined.other c.requires.joined.here

pub change-requires-clause-apart : goal.change-requires-clause-apart
change-requires-clause-apart g c = grown_apart c.args.store.now.slots c.args.key c.args.edge c.args.joined c.args.cell c.requires.joined c.requires.apart

pub returns-clause-pairs : goal.returns-clause-pairs
returns-clause-pairs g c = grown_pairs c.args.store.now.slots c.args.key c.args.edge c.args.joined c.args.cell
    c.requires.joined c.change.new.self.slots c.change.ensures.changed

pub returns-clause-holders : goal.returns-clause-holders
returns-clause-holders g c = grown_hold c.args.store.now.slots c.args.key c.args.edge c.args.joined c.args.cell
    c.requires.joined c.change.new.self.slots c.change.ensures.changed

pub returns-clause-joined : goal.returns-clause-joined
returns-clause-joined g c =
    adds_grown c.args.store.now.slots c.change.new.self.slots c.args.key c.args.edge c.args.joined c.args.cell
    c.requires.edges c.requires.is_edge c.requires.joined c.requires.others c.requires.beyond
    c.change.ensures.changed
