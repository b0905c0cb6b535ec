use Rattle.edge_patterns.specs.Edges.{head_moves, tail_moves}
use Rattle.edge_patterns.proofs.ChainLemmas.{refuted}
use Rattle.edge_patterns.proofs.JoinLemmas.{as_wide, head_goes, tail_goes}
use Rattle.std.proofs.Common.{refl}
use Rattle.edge_patterns.proofs.joins.over.Goals as goal

pub returns-then-not-is_as_wide : goal.returns-then-not-is_as_wide
returns-then-not-is_as_wide c = λ edge has.
    refuted c.if-not-is_as_wide.ensures (as_wide c.args.axis c.args.dep c.args.first c.args.last edge c.requires.line has)

pub returns-in_default : goal.returns-in_default
returns-in_default c = λ edge has.
    let none = rw (
      c.along.ensures.along,
      c.head.ensures.head,
      c.along-2.ensures.along,
      c.head-2.ensures.head,
      c.count-count.ensures.count,
    ) at c.in_default.ensures in
    none (head_moves edge.pattern) (head_goes c.args.axis c.args.dep c.args.first c.args.last edge c.requires.line has)

pub returns-in_default-moves : goal.returns-in_default-moves
returns-in_default-moves c = λ edge has.
    let none = rw (
      c.along-3.ensures.along,
      c.tail.ensures.tail,
      c.along-4.ensures.along,
      c.tail-2.ensures.tail,
      c.count-count.ensures.count,
    ) at c.in_default-moves.ensures in
    none (tail_moves edge.pattern) (tail_goes c.args.axis c.args.dep c.args.first c.args.last edge c.requires.line has)

pub spanned-requires-clause-wide : goal.spanned-requires-clause-wide
spanned-requires-clause-wide c = c.if-not-is_as_wide.ensures.0 refl

pub spanned-requires-clause-head : goal.spanned-requires-clause-head
spanned-requires-clause-head c = rw (
  c.along.ensures.along,
  c.head.ensures.head,
  c.along-2.ensures.along,
  c.head-2.ensures.head,
  c.count-count.ensures.count,
) at c.in-Some.ensures

pub spanned-requires-clause-tail : goal.spanned-requires-clause-tail
spanned-requires-clause-tail c = rw (
  c.along-3.ensures.along,
  c.tail.ensures.tail,
  c.along-4.ensures.along,
  c.tail-2.ensures.tail,
  c.count-count.ensures.count,
) at c.in-Some-moves.ensures
