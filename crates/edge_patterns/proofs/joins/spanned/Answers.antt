use Rattle.std.proofs.Common.{◌≡◌, ◌-◌, subst, sym, ◌∙◌}
use Rattle.sheet_refs.specs.Cells.{Corners}
use Rattle.edge_patterns.specs.Axes.{along, count_along}
use Rattle.edge_patterns.specs.Edges.{IsEdge, edge_of, head_moves, tail_moves}
use Rattle.edge_patterns.specs.Joins.{HasEnds, Moves}
use Rattle.edge_patterns.proofs.JoinLemmas.{outer_corners, has_ends}
use Rattle.edge_patterns.proofs.joins.spanned.Goals as goal

pub returns : goal.returns
returns c =
    let head_on : Moves (along c.args.axis c.args.first.head) (along c.args.axis c.args.last.head)
    (count_along c.args.axis c.args.dep - 1) (head_moves c.pattern_of-pattern.result) = rw c.pattern_of-pattern.ensures.head c.requires.head in
    let tail_on : Moves (along c.args.axis c.args.first.tail) (along c.args.axis c.args.last.tail)
    (count_along c.args.axis c.args.dep - 1) (tail_moves c.pattern_of-pattern.result) = rw c.pattern_of-pattern.ensures.tail c.requires.tail in
    let wide = c.requires.wide in
    let corners = outer_corners c.args.axis c.args.first c.args.last _ (head_moves c.pattern_of-pattern.result) c.tail.ensures.ordered wide.left head_on in
    let prec : c.of-prec.result ≡ record { head = c.args.first.head; tail = c.args.last.tail } =
    rw (c.head.ensures.head, c.tail.ensures.tail) at c.of-prec.ensures.corners ∙ corners in
    let made : c.of_parts.result ≡ edge_of c.args.dep (record { head = c.args.first.head; tail = c.args.last.tail })
    c.pattern_of-pattern.result =
    subst (λ (rectangle : Corners). c.of_parts.result ≡ edge_of c.args.dep rectangle c.pattern_of-pattern.result)
    prec c.of_parts.ensures.edge in
    let is = subst IsEdge made c.of_parts.ensures.is_edge in
    subst (HasEnds c.args.axis c.args.dep c.args.first c.args.last) (sym made)
    (has_ends c.args.axis c.args.dep c.args.first c.args.last c.pattern_of-pattern.result head_on tail_on wide.left
    wide.right is)
