use Rattle.std.proofs.Common.{sym}
use Rattle.taco_graph.proofs.ChangeLemmas.{is_there}
use Rattle.taco_graph.proofs.GrowthLemmas.{across_apart, across_differ, across_hold, across_pairs, across_there}
use Rattle.taco_graph.proofs.JoinableLemmas.{adds_across}
use Rattle.taco_graph.proofs.changes.grow_across.Goals as goal

pub remove-requires : goal.remove-requires
remove-requires g c = record { there = is_there c.args.store.now.slots c.args.beyond c.requires.last.other c.requires.last.here }

pub change-requires-clause-there : goal.change-requires-clause-there
change-requires-clause-there g c =
    across_there c.args.store.now.slots c.args.key c.args.edge c.args.joined c.args.cell c.requires.joined
    c.remove.new.self.slots c.args.beyond c.args.last c.requires.last c.remove.ensures.removed

pub change-requires-clause-apart : goal.change-requires-clause-apart
change-requires-clause-apart g c =
    across_apart c.args.store.now.slots c.args.key c.args.edge c.args.joined c.args.cell c.requires.joined
    c.remove.new.self.slots c.args.beyond c.args.last c.requires.last c.remove.ensures.removed
    c.requires.apart c.remove.ensures.apart

pub returns-clause-pairs : goal.returns-clause-pairs
returns-clause-pairs g c =
    across_pairs c.args.store.now.slots c.args.key c.args.edge c.args.joined c.args.cell c.requires.joined
    c.remove.new.self.slots c.args.beyond c.args.last c.requires.last c.remove.ensures.removed
    c.change.new.self.slots c.change.ensures.changed

pub returns-clause-holders : goal.returns-clause-holders
returns-clause-holders g c =
    across_hold c.args.store.now.slots c.args.key c.args.edge c.args.joined c.args.cell c.requires.joined
    c.remove.new.self.slots c.args.beyond c.args.last c.requires.last c.remove.ensures.removed
    c.change.new.self.slots c.change.ensures.changed

pub returns-clause-joined : goal.returns-clause-joined
returns-clause-joined g c =
    let apart = across_differ c.args.store.now.slots c.args.key c.args.edge c.args.joined c.args.cell c.requires.joined
    c.remove.new.self.slots c.args.beyond c.args.last c.requires.last c.remove.ensures.removed in
    adds_across c.args.store.now.slots c.remove.new.self.slots c.change.new.self.slots c.args.key c.args.beyond
    c.args.edge c.args.joined c.args.last c.args.cell c.requires.edges c.requires.is_edge c.requires.joined
    c.requires.others c.requires.last (λ same. apart (sym same)) c.remove.ensures.removed c.change.ensures.changed
