use Rattle.std.proofs.Common.{◌≡◌, ◌-◌, refl, subst}
use Rattle.sheet_refs.specs.Cells.{span_of}
use Rattle.edge_patterns.specs.Edges.{EdgeValue, range_at, run_length}
use Rattle.edge_patterns.specs.Joins.{HasEnds, HasInnerRanges}
use Rattle.edge_patterns.proofs.ChainLemmas.{refuted}
use Rattle.edge_patterns.proofs.JoinedLemmas.{outer, has_pairs, union_ends, union_inner, union_wide, ends_tell, whole, whole_line, whole_several}
use Rattle.edge_patterns.proofs.joins.union_of.Goals as goal

pub returns-then-not-is_as_wide : goal.returns-then-not-is_as_wide
returns-then-not-is_as_wide c = λ edge union.
    let front = c.args.front.now in
    let rear = c.args.rear.now in
    let not_wide = rw (c.prec.ensures.prec, c.prec-2.ensures.prec) at c.if-not-is_as_wide.ensures in
    refuted not_wide (union_wide c.args.axis front rear c.prec.ensures.edge c.prec-2.ensures.edge c.requires edge union)

pub returns-in_default : goal.returns-in_default
returns-in_default c = λ edge union.
    let front = c.args.front.now in
    let rear = c.args.rear.now in
    let run : c.of-dep.result ≡ span_of front.dep.head rear.dep.tail = rw (
      c.head.ensures.head,
      c.dep.ensures.dep,
      c.tail.ensures.tail,
      c.dep-2.ensures.dep,
    ) at c.of-dep.ensures.corners in
    let last : c.range_at-2.result ≡ range_at rear (run_length rear - 1) = rw c.len.ensures.len at c.range_at-2.ensures.range in
    let none = outer c.args.axis front rear c.dep.ensures.edge c.dep-2.ensures.edge c.requires
    (λ d f l. (value : EdgeValue) → ¬ HasEnds c.args.axis d f l value) _ _ _ run c.range_at.ensures.range last
    c.in_default.ensures in
    none edge (union_ends c.args.axis front rear c.dep.ensures.edge c.dep-2.ensures.edge c.requires edge union)

pub returns-then-not-has_inner_ranges : goal.returns-then-not-has_inner_ranges
returns-then-not-has_inner_ranges c = λ edge union.
    let front = c.args.front.now in
    let rear = c.args.rear.now in
    let run : c.of-dep.result ≡ span_of front.dep.head rear.dep.tail = rw (
      c.head.ensures.head,
      c.dep.ensures.dep,
      c.tail.ensures.tail,
      c.dep-2.ensures.dep,
    ) at c.of-dep.ensures.corners in
    let last : c.range_at-2.result ≡ range_at rear (run_length rear - 1) = rw c.len.ensures.len at c.range_at-2.ensures.range in
    let has = outer c.args.axis front rear c.dep.ensures.edge c.dep-2.ensures.edge c.requires
    (λ d f l. HasEnds c.args.axis d f l c.in-Some.edge) _ _ _ run c.range_at.ensures.range last c.in-Some.ensures in
    let ends = union_ends c.args.axis front rear c.dep.ensures.edge c.dep-2.ensures.edge c.requires edge union in
    let line = whole_line c.args.axis front rear c.dep.ensures.edge c.dep-2.ensures.edge c.requires in
    let several = whole_several c.args.axis front rear c.dep.ensures.edge c.dep-2.ensures.edge c.requires in
    let same = ends_tell c.args.axis (whole c.args.axis front rear c.dep.ensures.edge c.dep-2.ensures.edge c.requires) _
    _ edge c.in-Some.edge line several ends has in
    let inner = union_inner c.args.axis front rear c.dep.ensures.edge c.dep-2.ensures.edge c.requires edge union in
    refuted c.if-not-has_inner_ranges.ensures (subst (λ (e : EdgeValue). HasInnerRanges e front rear) same inner)

pub returns : goal.returns
returns c =
    let front = c.args.front.now in
    let rear = c.args.rear.now in
    let run : c.of-dep.result ≡ span_of front.dep.head rear.dep.tail = rw (
      c.head.ensures.head,
      c.dep.ensures.dep,
      c.tail.ensures.tail,
      c.dep-2.ensures.dep,
    ) at c.of-dep.ensures.corners in
    let last : c.range_at-2.result ≡ range_at rear (run_length rear - 1) = rw c.len.ensures.len at c.range_at-2.ensures.range in
    let has = outer c.args.axis front rear c.dep.ensures.edge c.dep-2.ensures.edge c.requires
    (λ d f l. HasEnds c.args.axis d f l c.in-Some.edge) _ _ _ run c.range_at.ensures.range last c.in-Some.ensures in
    has_pairs c.args.axis front rear c.dep.ensures.edge c.dep-2.ensures.edge c.requires c.in-Some.edge has.is_edge
    has.dep_is has (c.if-not-has_inner_ranges.ensures.0 refl)
