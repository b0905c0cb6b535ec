use Rattle.std.proofs.Common.{◌≡◌, ◌+◌, ◌-◌, List, ap, arith, subst, sym, ◌∙◌}
use Rattle.sheet_refs.specs.Cells.{Corners, Position, span_of}
use Rattle.graph_walk.specs.Series.{AddsRun, FollowDown, LackRun, SeriesValue}
use Rattle.edit_log.specs.Runs.{cells_down, down}
use Rattle.edit_log.proofs.RunLemmas.{column_spans, same_end}
use Rattle.edit_log.proofs.graphs.add_several.Goals as goal

-- the run, where it comes of calls
run_is : (cell tail : Position) (range : Corners) (row col count : _) → (tail.row ≡ row + (count - 1)) × (tail.col ≡ col)
    → row ≡ cell.row → col ≡ cell.col → range ≡ span_of cell tail → range ≡ cells_down cell count
run_is cell tail range row col count at row_is col_is range_is =
    let there : tail ≡ down cell (count - 1) = same_end tail (down cell (count - 1)) (omega (arith, at.0, row_is)) (at.1 ∙ col_is) in
    range_is ∙ (ap (span_of cell) there ∙ column_spans cell count)

pub add_run-requires-clause-follow : goal.add_run-requires-clause-follow
add_run-requires-clause-follow g c =
    let run = run_is c.args.cell c.unwrap-tail.result c.of.result c.row.result c.col.result c.args.run.count
    (rw c.unwrap-tail.ensures at c.new.ensures.position) c.row.ensures.row c.col.ensures.col c.of.ensures.corners in
    let series = c.deref.ensures.value ∙ c.in_ok-series.ensures in
    subst (λ (r : Corners). FollowDown r c.deref.result.now) (sym run)
    (subst (λ (s : List SeriesValue). FollowDown (cells_down c.args.cell c.args.run.count) s) (sym series) c.requires.follow)

pub add_run-requires-clause-free : goal.add_run-requires-clause-free
add_run-requires-clause-free g c =
    let run = run_is c.args.cell c.unwrap-tail.result c.of.result c.row.result c.col.result c.args.run.count
    (rw c.unwrap-tail.ensures at c.new.ensures.position) c.row.ensures.row c.col.ensures.col c.of.ensures.corners in
    subst (λ (r : Corners). LackRun (g.G.Graph.pairs c.args.graph.now) r) (sym run) c.requires.free

pub returns : goal.returns
returns g c =
    let run = run_is c.args.cell c.unwrap-tail.result c.of.result c.row.result c.col.result c.args.run.count
    (rw c.unwrap-tail.ensures at c.new.ensures.position) c.row.ensures.row c.col.ensures.col c.of.ensures.corners in
    let series = c.deref.ensures.value ∙ c.in_ok-series.ensures in
    let old = g.G.Graph.pairs c.args.graph.now in
    let new = g.G.Graph.pairs c.add_run.new.self in
    subst (λ (s : List SeriesValue). AddsRun old new (cells_down c.args.cell c.args.run.count) s) series
    (subst (λ (r : Corners). AddsRun old new r c.deref.result.now) run c.in_ok-add_run.ensures.added)
