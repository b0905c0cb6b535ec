use Rattle.std.proofs.Common.{◌≡◌, ◌++◌, List, take, ap, ◌∙◌, subst}
use Rattle.std.proofs.lemmas.List.{take_all}
use Rattle.sheet_refs.specs.Cells.{Corners}
use Rattle.graph_walk.specs.Graphs.{Pair, Replaces}
use Rattle.plain_graph.specs.Plain.{PlainValue}
use Rattle.plain_graph.proofs.PairLemmas.{replaces_from, pairs_with}
use Rattle.plain_graph.proofs.plain.PlainGraphGraph.replace.Goals as goal

pub returns-clause-replaced : goal.returns-clause-replaced
returns-clause-replaced c =
    let refs : List Corners = c.args.refs.now in
    let all : take c.loop-range.range-index c.ranges-range-items.result.now ≡ refs =
    take_all c.loop-range.range-index c.ranges-range-items.result.now c.loop-range-test.false
    ∙ c.ranges-range-items.ensures.ranges in
    let whole : c.loop-range.self-inside.pairs.items ≡ c.drop_pairs.new.pairs.items ++ pairs_with c.args.cell refs =
    c.loop-range.invariant.1 ∙ ap (λ (ranges : List Corners). c.drop_pairs.new.pairs.items
    ++ pairs_with c.args.cell ranges) all in
    let old : c.self.inside.pairs.items ≡ c.args.self.now.pairs = ap (λ (g : PlainValue). g.pairs) c.self.view_is in
    subst (λ (pairs : List Pair). Replaces pairs c.loop-range.self-inside.pairs.items c.args.cell refs) old
    (replaces_from c.self.inside.pairs.items c.drop_pairs.new.pairs.items c.loop-range.self-inside.pairs.items c.args.cell refs c.drop_pairs.ensures.kept whole)
