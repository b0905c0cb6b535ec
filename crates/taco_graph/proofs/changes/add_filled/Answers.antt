use Rattle.std.proofs.Common.{subst, sym}
use Rattle.sheet_refs.specs.Cells.{Position}
use Rattle.edge_patterns.specs.Edges.{IsPair}
use Rattle.edge_patterns.specs.Joins.{HasEnds}
use Rattle.edge_patterns.specs.declared.axis.Axis.TheVariants.{Down}
use Rattle.graph_walk.specs.Series.{SeriesValue}
use Rattle.taco_graph.specs.Sides.{NameBeside}
use Rattle.taco_graph.proofs.JoinableLemmas.{all_still}
use Rattle.taco_graph.proofs.RunLemmas.{is_apart, gains_series, head_pair}
use Rattle.taco_graph.proofs.changes.add_filled.Goals as goal

pub add-requires-clause-apart : goal.add-requires-clause-apart
add-requires-clause-apart g c =
    let ends = subst (λ (s : SeriesValue). HasEnds Down c.args.run s.first s.last c.filled-edge.result) c.series.view_is c.filled-edge.ensures in
    is_apart c.args.run c.args.series c.filled-edge.result c.requires.line c.requires.several c.requires.follow ends
    c.args.store.now.slots c.requires.apart

pub returns-clause-joined : goal.returns-clause-joined
returns-clause-joined g c =
    let ends = subst (λ (s : SeriesValue). HasEnds Down c.args.run s.first s.last c.filled-edge.result) c.series.view_is c.filled-edge.ensures in
    let one = head_pair c.args.run c.args.series c.filled-edge.result c.requires.line c.requires.several c.requires.follow ends in
    all_still c.args.store.now.slots c.add.new.store.slots c.filled-edge.result c.head.result one.0 c.check_edges.ensures
    (subst (λ (cell : Position). IsPair c.filled-edge.result one.0 cell) (sym c.head.ensures.head) one.1) c.requires.joined c.add.ensures.joined

pub returns-clause-names : goal.returns-clause-names
returns-clause-names g c =
    let ends = subst (λ (s : SeriesValue). HasEnds Down c.args.run s.first s.last c.filled-edge.result) c.series.view_is c.filled-edge.ensures in
    let one = head_pair c.args.run c.args.series c.filled-edge.result c.requires.line c.requires.several c.requires.follow ends in
    subst (λ (cell : Position). NameBeside c.add.new.store.slots cell c.add.new.sides) c.head.ensures.head
    (c.add.ensures.names (one.0, subst (λ (cell : Position). IsPair c.filled-edge.result one.0 cell) (sym c.head.ensures.head) one.1))

pub returns-clause-pairs : goal.returns-clause-pairs
returns-clause-pairs g c =
    let ends = subst (λ (s : SeriesValue). HasEnds Down c.args.run s.first s.last c.filled-edge.result) c.series.view_is c.filled-edge.ensures in
    gains_series c.args.run c.args.series c.filled-edge.result c.requires.line c.requires.several c.requires.follow ends
    c.args.store.now.slots c.add.new.store.slots c.add.ensures.pairs
