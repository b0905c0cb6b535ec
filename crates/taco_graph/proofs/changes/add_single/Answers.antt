use Rattle.std.proofs.Common.{refl, sym, subst}
use Rattle.edge_patterns.specs.Edges.{EdgeValue, IsPair, single_edge}
use Rattle.edge_patterns.proofs.RectangleLemmas.{single_pair}
use Rattle.taco_graph.specs.Stores.{IsApart}
use Rattle.taco_graph.specs.Changes.{GainsPairs}
use Rattle.taco_graph.proofs.JoinableLemmas.{all_still}
use Rattle.taco_graph.proofs.changes.add_single.Goals as goal

pub add-requires-clause-apart : goal.add-requires-clause-apart
add-requires-clause-apart g c = subst (λ (e : EdgeValue). IsApart c.args.store.now.slots e) (sym c.single-edge.ensures) c.requires.apart

pub returns-clause-pairs : goal.returns-clause-pairs
returns-clause-pairs g c = subst (λ (e : EdgeValue). GainsPairs c.args.store.now.slots c.add.new.store.slots e) c.single-edge.ensures c.add.ensures.pairs

pub returns-clause-joined : goal.returns-clause-joined
returns-clause-joined g c =
    let one : IsPair (single_edge c.args.cell c.args.range) c.args.range c.args.cell =
    (single_pair c.args.cell c.args.cell c.args.range c.args.range).1 (refl, refl) in
    all_still c.args.store.now.slots c.add.new.store.slots c.single-edge.result c.args.cell c.args.range c.check_edges.ensures
    (subst (λ (e : EdgeValue). IsPair e c.args.range c.args.cell) (sym c.single-edge.ensures) one) c.requires.joined c.add.ensures.joined

pub returns-clause-names : goal.returns-clause-names
returns-clause-names g c =
    let one : IsPair (single_edge c.args.cell c.args.range) c.args.range c.args.cell =
    (single_pair c.args.cell c.args.cell c.args.range c.args.range).1 (refl, refl) in
    c.add.ensures.names (c.args.range, subst (λ (e : EdgeValue). IsPair e c.args.range c.args.cell) (sym c.single-edge.ensures) one)
