use Rattle.std.proofs.Common.{◌≡◌, ◌+◌, ◌++◌, ◌∷◌, [], ℕ, List, ap, ◌∙◌, rules}
use Rattle.sheet_refs.specs.Cells.{Position}
use Rattle.sheet_refs.proofs.Grid.{same_position}
use Rattle.graph_walk.specs.Graphs.{Pair}
use Rattle.plain_graph.proofs.PairLemmas.{same_pair, with_cell}
use Rattle.plain_graph.proofs.RunLemmas.{pair_in, first_next, first_all}
use Rattle.plain_graph.proofs.plain.add_series.Goals as goal

pub loop-index-preserved : goal.loop-index-preserved
loop-index-preserved c =
    let pairs : List Pair = c.loop-index.pairs.items in
    let index : ℕ = c.loop-index.index in
    let cell : Position = c.unwrap-cell.result in
    let row : cell.row ≡ c.args.run.head.row + index = search rules in
    let col : cell.col ≡ c.args.run.head.col = search rules in
    let is : with_cell c.range_in-range.result cell ≡ pair_in c.args.run c.args.series.now index =
    same_pair c.range_in-range.ensures (same_position row col) in
    let pushed : c.push.new.self.items ≡ pairs ++ with_cell c.range_in-range.result cell ∷ [] = search rules in (
      first_next c.args.pairs.now.items pairs c.push.new.self.items c.args.run c.args.series.now index
          (pushed ∙ ap (λ (p : Pair). pairs ++ p ∷ []) is) c.loop-index.invariant.0,
      search rules,
      search rules,
    )

pub returns-clause-added : goal.returns-clause-added
returns-clause-added c =
    first_all c.args.pairs.now.items c.loop-index.pairs.items c.args.run c.args.series.now c.loop-index.index
    c.requires.line (search rules) c.loop-index.invariant.0
