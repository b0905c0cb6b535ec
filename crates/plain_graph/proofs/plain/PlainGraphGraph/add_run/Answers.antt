use Rattle.std.proofs.Common.{◌≡◌, ◌+◌, ◌++◌, ◌∷◌, [], ℕ, List, take, length, vec_len, sym, ◌∙◌, ap, subst, arith}
use Rattle.sheet_refs.specs.Cells.{height}
use Rattle.std.proofs.lemmas.List.{take_all, take_more}
use Rattle.graph_walk.specs.Graphs.{Pair}
use Rattle.graph_walk.specs.Series.{SeriesValue, AddsRun}
use Rattle.plain_graph.specs.Plain.{PlainValue}
use Rattle.plain_graph.proofs.RunLemmas.{run_next, room_next}
use Rattle.plain_graph.proofs.plain.PlainGraphGraph.add_run.Goals as goal

pub loop-one-preserved : goal.loop-one-preserved
loop-one-preserved c =
    let series : List SeriesValue = c.args.series.now in
    let index : ℕ = c.loop-one.one-index in
    let one : SeriesValue = c.one-item.result in
    let next : take (index + 1) series ≡ take index series ++ one ∷ [] =
    take_more series index one c.loop-one-test.true ∙ ap (λ (s : SeriesValue). take index series ++ s ∷ []) (sym c.one-item.is) in (
      subst (λ (some : List SeriesValue). AddsRun c.reserve.new.self.items c.add_series.new.pairs.items c.args.run some)
          (sym next) (run_next c.reserve.new.self.items c.loop-one.self-inside.pairs.items c.add_series.new.pairs.items
          c.args.run (take index series) one c.loop-one.invariant.0 c.add_series.ensures.added),
      omega (arith, room_next (vec_len c.loop-one.self-inside.pairs) (length series) index (height c.args.run) c.loop-one-test.true),
    )

pub returns-clause-added : goal.returns-clause-added
returns-clause-added c =
    let old : c.reserve.new.self.items ≡ c.args.self.now.pairs = c.reserve.ensures.items ∙ ap (λ (g : PlainValue). g.pairs) c.self.view_is in
    let all : take c.loop-one.one-index c.args.series.now ≡ c.args.series.now =
    take_all c.loop-one.one-index c.args.series.now c.loop-one-test.false in
    subst (λ (pairs : List Pair). AddsRun pairs c.loop-one.self-inside.pairs.items c.args.run c.args.series.now) old
    (subst (λ (some : List SeriesValue). AddsRun c.reserve.new.self.items c.loop-one.self-inside.pairs.items c.args.run some)
    all c.loop-one.invariant.0)
