use Rattle.std.proofs.Common.{◌≡◌, ◌+◌, ◌-◌, refl, ◌++◌, ◌∷◌, [], List, take, sym, ◌∙◌, ap, subst, arith}
use Rattle.std.proofs.lemmas.List.{take_all, take_more}
use Rattle.sheet_refs.specs.Cells.{Corners}
use Rattle.sheet_refs.specs.Refs.{AreRefs}
use Rattle.graph_walk.specs.Graphs.{Replaces}
use Rattle.edge_patterns.specs.Edges.{EdgeValue}
use Rattle.taco_graph.specs.Pairs.{pairs_of}
use Rattle.taco_graph.specs.Stores.{edges_of}
use Rattle.taco_graph.specs.Taco.{TacoValue}
use Rattle.taco_graph.proofs.ChangeLemmas.{keeps_same}
use Rattle.taco_graph.proofs.ReplaceLemmas.{AreReplaced, at_most_still, replaced_more, replaced_none, replaced_on, replaces_pairs, single_apart}
use Rattle.taco_graph.proofs.ListLemmas.{not_before}
use Rattle.taco_graph.specs.Sides.{AreRound}
use Rattle.taco_graph.proofs.JoinableLemmas.{kept_of_others, others_of_kept}
use Rattle.taco_graph.proofs.taco.TacoGraph.replace.Goals as goal

pub take_out-requires : goal.take_out-requires
take_out-requires g c =
    let spare : c.self.inside.ready ≡ c.args.self.now.spare = ap (λ (t : TacoValue). t.spare) c.self.view_is in
    record {
      joined = others_of_kept c.self.inside.store.slots c.args.cell c.self.invariant.joined;
      room = record { most = 255; few = c.self.invariant.few c.args.cell; fits = omega (arith, spare, c.requires, c.self.invariant.room) };
    }

pub loop-range-init : goal.loop-range-init
loop-range-init g c =
    let spare : c.self.inside.ready ≡ c.args.self.now.spare = ap (λ (t : TacoValue). t.spare) c.self.view_is in
    let left = c.take_out.ensures.room 255 (record {
      most = 255;
      few = c.self.invariant.few c.args.cell;
      fits = omega (arith, spare, c.requires, c.self.invariant.room);
    }) in (
      subst (λ (l : List Corners). AreRefs l) (sym c.ranges-range-items.ensures.ranges) c.ranges-range-items.ensures.distinct_and_few,
      replaced_none c.take_out.new.store.slots c.take_out.new.store.slots c.args.cell c.take_out.ensures.gone
          (keeps_same c.take_out.new.store.slots c.args.cell),
      omega arith,
      omega (arith, left.fits),
      kept_of_others c.take_out.new.store.slots c.args.cell c.take_out.ensures.gone c.take_out.ensures.joined,
      c.turn_to.ensures.names c.take_out.new.store.slots c.args.cell,
      subst (λ (r : Corners). AreRound r c.turn_to.new.self) c.of.ensures.corners c.turn_to.ensures.round,
      refl,
    )

pub add_single-requires-clause-apart : goal.add_single-requires-clause-apart
add_single-requires-clause-apart g c =
    single_apart c.take_out.new.store.slots c.loop-range.self-inside.store.slots c.args.cell
    (take c.loop-range.range-index c.ranges-range-items.result.now) c.range-item.result
    (not_before c.ranges-range-items.result.now c.loop-range.range-index c.range-item.result
    c.loop-range.invariant.0.distinct c.loop-range-test.true c.range-item.is) c.loop-range.invariant.1

pub add_single-requires-clause-room : goal.add_single-requires-clause-room
add_single-requires-clause-room g c = omega (arith, c.loop-range.invariant.0.few, c.loop-range-test.true, c.loop-range.invariant.2, c.loop-range.invariant.3)

pub loop-range-preserved : goal.loop-range-preserved
loop-range-preserved g c =
    let items : List Corners = c.ranges-range-items.result.now in
    let k = c.loop-range.range-index in
    let one : Corners = c.range-item.result in
    let mid = c.take_out.new.store.slots in
    let now = c.loop-range.self-inside.store.slots in
    let next = c.add_single.new.store.slots in
    let more : take (k + 1) items ≡ take k items ++ one ∷ [] = take_more items k one c.loop-range-test.true
    ∙ ap (λ (r : Corners). take k items ++ r ∷ []) (sym c.range-item.is) in (
      c.loop-range.invariant.0,
      subst (λ (l : List Corners). AreReplaced mid next c.args.cell l) (sym more)
          (replaced_more mid now next c.args.cell (take k items) one c.add_single.ensures.pairs c.loop-range.invariant.1),
      omega (arith, c.add_single.ensures.room, c.loop-range.invariant.2),
      c.loop-range.invariant.3,
      c.add_single.ensures.joined,
      c.add_single.ensures.names,
      c.add_single.ensures.round,
      c.loop-range.invariant.7,
    )

pub invariant_of-self : goal.invariant_of-self
invariant_of-self g c =
    let items : List Corners = c.ranges-range-items.result.now in
    let all : take c.loop-range.range-index items ≡ c.args.refs.now =
    take_all c.loop-range.range-index items c.loop-range-test.false ∙ c.ranges-range-items.ensures.ranges in
    let now = c.loop-range.self-inside.store.slots in
    let replaced : AreReplaced c.self.inside.store.slots now c.args.cell c.args.refs.now =
    replaced_on c.self.inside.store.slots c.take_out.new.store.slots now c.args.cell c.args.refs.now c.take_out.ensures.others
    (subst (λ (l : List Corners). AreReplaced c.take_out.new.store.slots now c.args.cell l) all c.loop-range.invariant.1) in
    let spare : c.self.inside.ready ≡ c.args.self.now.spare = ap (λ (t : TacoValue). t.spare) c.self.view_is in
    let left = c.take_out.ensures.room (c.self.inside.store.room - 510) (record {
      most = 255;
      few = c.self.invariant.few c.args.cell;
      fits = omega (arith, spare, c.requires, c.self.invariant.room);
    }) in
    record {
      few = at_most_still c.self.inside.store.slots now c.args.cell c.args.refs.now
          (subst (λ (l : List Corners). AreRefs l) c.ranges-range-items.ensures.ranges c.loop-range.invariant.0) replaced c.self.invariant.few;
      joined = c.loop-range.invariant.4;
      room = omega (
        arith,
        left.fits,
        c.self.invariant.room,
        c.loop-range.invariant.2,
        c.loop-range.invariant.0.few,
        c.loop-range-test.false,
        c.loop-range.invariant.7,
      );
    }

pub returns-clause-replaced : goal.returns-clause-replaced
returns-clause-replaced g c =
    let items : List Corners = c.ranges-range-items.result.now in
    let all : take c.loop-range.range-index items ≡ c.args.refs.now =
    take_all c.loop-range.range-index items c.loop-range-test.false ∙ c.ranges-range-items.ensures.ranges in
    let now = c.loop-range.self-inside.store.slots in
    let replaced : AreReplaced c.self.inside.store.slots now c.args.cell c.args.refs.now =
    replaced_on c.self.inside.store.slots c.take_out.new.store.slots now c.args.cell c.args.refs.now c.take_out.ensures.others
    (subst (λ (l : List Corners). AreReplaced c.take_out.new.store.slots now c.args.cell l) all c.loop-range.invariant.1) in
    let view : edges_of c.self.inside.store.slots ≡ c.args.self.now.edges = ap (λ (t : TacoValue). t.edges) c.self.view_is in
    subst (λ (es : List EdgeValue). Replaces (pairs_of es) (pairs_of (edges_of now)) c.args.cell c.args.refs.now) view
    (replaces_pairs c.self.inside.store.slots now c.args.cell c.args.refs.now replaced)

pub returns-clause-room : goal.returns-clause-room
returns-clause-room g c =
    let spare : c.self.inside.ready ≡ c.args.self.now.spare = ap (λ (t : TacoValue). t.spare) c.self.view_is in
    omega (arith, spare, c.requires, c.loop-range.invariant.7)

pub add_single-requires-clause-joined : goal.add_single-requires-clause-joined
add_single-requires-clause-joined g c = c.loop-range.invariant.4

pub add_single-requires-clause-names : goal.add_single-requires-clause-names
add_single-requires-clause-names g c = c.loop-range.invariant.5

pub add_single-requires-clause-round : goal.add_single-requires-clause-round
add_single-requires-clause-round g c = c.loop-range.invariant.6
