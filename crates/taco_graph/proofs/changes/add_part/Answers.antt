use Rattle.std.proofs.Common.{Option, sym, subst}
use Rattle.edge_patterns.specs.Edges.{EdgeValue}
use Rattle.edge_patterns.specs.Joins.{HasPair}
use Rattle.taco_graph.specs.Changes.{GainsPartPairs}
use Rattle.taco_graph.proofs.ChangeLemmas.{gains_none, gains_some}
use Rattle.taco_graph.proofs.JoinableLemmas.{others_still}
use Rattle.taco_graph.proofs.changes.add_part.Goals as goal

pub returns-in_default-clause-pairs : goal.returns-in_default-clause-pairs
returns-in_default-clause-pairs g c =
    subst (λ (o : Option EdgeValue). GainsPartPairs c.args.store.now.slots c.args.store.now.slots o)
    (sym c.in_default.is) (gains_none c.args.store.now.slots)

pub returns-clause-pairs : goal.returns-clause-pairs
returns-clause-pairs g c = gains_some c.args.store.now.slots c.add.new.store.slots c.args.part c.in-Some.edge c.in-Some.is c.add.ensures.pairs

pub returns-clause-holders : goal.returns-clause-holders
returns-clause-holders g c lacks =
    c.add.ensures.holders (λ range pair. lacks range (subst (λ (o : Option EdgeValue). HasPair o range c.args.cell)
    (sym c.in-Some.is) pair))

pub add-requires-clause-apart : goal.add-requires-clause-apart
add-requires-clause-apart g c range at pair kept = c.requires.apart range at (subst (λ (o : Option EdgeValue). HasPair o range at) (sym c.in-Some.is) pair) kept

pub add-requires-clause-names : goal.add-requires-clause-names
add-requires-clause-names g c = c.turn_to.ensures.names c.args.store.now.slots c.args.cell

pub returns-clause-others : goal.returns-clause-others
returns-clause-others g c = others_still c.args.store.now.slots c.add.new.store.slots c.in-Some.edge c.args.cell c.requires.others c.add.ensures.joined
