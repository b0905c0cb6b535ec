use Rattle.std.proofs.Common.{◌≡◌, ◌+◌, refl, ◌++◌, ◌∷◌, [], List, take, sym, ◌∙◌, ap, subst, arith}
use Rattle.std.proofs.lemmas.List.{take_all, take_more}
use Rattle.graph_walk.specs.Series.{SeriesValue, LackRun, AddsRun}
use Rattle.edge_patterns.specs.Edges.{EdgeValue}
use Rattle.taco_graph.specs.Pairs.{pairs_of}
use Rattle.taco_graph.specs.Stores.{edges_of}
use Rattle.taco_graph.specs.Taco.{TacoValue}
use Rattle.taco_graph.proofs.RunLemmas.{AreFilled, filled_none, filled_more, series_apart, adds_run, filled_few}
use Rattle.taco_graph.proofs.taco.TacoGraph.add_run.Given.{Over}
use Rattle.taco_graph.proofs.taco.TacoGraph.add_run.Goals as goal

pub loop-one-init : goal.loop-one-init
loop-one-init g c = (
  filled_none c.self.inside.store.slots c.args.run,
  omega arith,
  c.self.invariant.joined,
  c.turn_to.ensures.names c.self.inside.store.slots c.args.run.head,
  c.turn_to.ensures.round,
  refl,
)

pub add_filled-requires-clause-apart : goal.add_filled-requires-clause-apart
add_filled-requires-clause-apart g c =
    let edges : edges_of c.self.inside.store.slots ≡ c.args.self.now.edges = ap (λ (t : TacoValue). t.edges) c.self.view_is
    ∙ c.in_ok-reserve.ensures.same_edges in
    let lack = subst (λ (es : List EdgeValue). LackRun (pairs_of es) c.args.run) (sym edges) c.requires.free in
    series_apart c.self.inside.store.slots c.loop-one.self-inside.store.slots c.args.run c.args.series.now c.loop-one.one-index c.one-item.result
    c.requires.follow.distinct c.loop-one-test.true c.one-item.is lack c.loop-one.invariant.0

pub add_filled-requires-clause-joined : goal.add_filled-requires-clause-joined
add_filled-requires-clause-joined g c = c.loop-one.invariant.2

pub add_filled-requires-clause-names : goal.add_filled-requires-clause-names
add_filled-requires-clause-names g c = c.loop-one.invariant.3

pub add_filled-requires-clause-round : goal.add_filled-requires-clause-round
add_filled-requires-clause-round g c = c.loop-one.invariant.4

pub add_filled-requires-clause-room : goal.add_filled-requires-clause-room
add_filled-requires-clause-room g c =
    let spare = ap (λ (t : TacoValue). t.spare) c.self.view_is in
    omega (
      arith,
      spare,
      c.in_ok-reserve.ensures.room,
      c.self.invariant.room,
      c.requires.follow.few,
      c.loop-one-test.true,
      c.loop-one.invariant.1,
    )

pub loop-one-preserved : goal.loop-one-preserved
loop-one-preserved g c =
    let items : List SeriesValue = c.args.series.now in
    let k = c.loop-one.one-index in
    let one : SeriesValue = c.one-item.result in
    let old = c.self.inside.store.slots in
    let now = c.loop-one.self-inside.store.slots in
    let next = c.add_filled.new.store.slots in
    let more : take (k + 1) items ≡ take k items ++ one ∷ [] = take_more items k one c.loop-one-test.true
    ∙ ap (λ (s : SeriesValue). take k items ++ s ∷ []) (sym c.one-item.is) in (
      subst (λ (taken : List SeriesValue). AreFilled old next c.args.run taken) (sym more)
          (filled_more old now next c.args.run (take k items) one c.add_filled.ensures.pairs c.loop-one.invariant.0),
      omega (arith, c.add_filled.ensures.room, c.loop-one.invariant.1),
      c.add_filled.ensures.joined,
      c.add_filled.ensures.names,
      c.add_filled.ensures.round,
      c.loop-one.invariant.5,
    )

-- making room leaves the edges
same_edges : (g : Over) (c : goal.After-loop-one g) → edges_of c.self.inside.store.slots ≡ c.args.self.now.edges
same_edges g c = ap (λ (t : TacoValue). t.edges) c.self.view_is ∙ c.in_ok-reserve.ensures.same_edges

-- so that none of them had a pair of the run
lacks_run : (g : Over) (c : goal.After-loop-one g) → LackRun (pairs_of (edges_of c.self.inside.store.slots)) c.args.run
lacks_run g c = subst (λ (es : List EdgeValue). LackRun (pairs_of es) c.args.run) (sym (same_edges g c)) c.requires.free

-- after the last series the run has all of them
all_filled : (g : Over) (c : goal.After-loop-one g)
    → AreFilled c.self.inside.store.slots c.loop-one.self-inside.store.slots c.args.run c.args.series.now
all_filled g c =
    subst (λ (taken : List SeriesValue). AreFilled c.self.inside.store.slots c.loop-one.self-inside.store.slots c.args.run taken)
    (take_all c.loop-one.one-index c.args.series.now c.loop-one-test.false) c.loop-one.invariant.0

pub invariant_of-self : goal.invariant_of-self
invariant_of-self g c =
    let spare = ap (λ (t : TacoValue). t.spare) c.self.view_is in
    record {
      few = filled_few c.self.inside.store.slots c.loop-one.self-inside.store.slots c.args.run c.args.series.now c.requires.follow.few
          (lacks_run g c) (all_filled g c) c.self.invariant.few;
      joined = c.loop-one.invariant.2;
      room = omega (
        arith,
        spare,
        c.in_ok-reserve.ensures.room,
        c.self.invariant.room,
        c.loop-one.auto.one-index-end,
        c.requires.follow.few,
        c.loop-one.invariant.1,
        c.loop-one.invariant.5,
      );
    }

pub returns-clause-added : goal.returns-clause-added
returns-clause-added g c =
    subst (λ (es : List EdgeValue). AddsRun (pairs_of es) (pairs_of (edges_of c.loop-one.self-inside.store.slots)) c.args.run c.args.series.now)
    (same_edges g c)
    (adds_run c.self.inside.store.slots c.loop-one.self-inside.store.slots c.args.run c.args.series.now c.requires.follow.few
    (lacks_run g c) (all_filled g c))
