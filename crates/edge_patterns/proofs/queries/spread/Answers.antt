use Rattle.std.proofs.Common.{refl}
use Rattle.edge_patterns.proofs.ChainLemmas.{is_chain, goes_before, goes_after, refuted, reached_onward, reached_backward}
use Rattle.edge_patterns.proofs.QueryLemmas.{direct_covers, no_direct, no_reached}
use Rattle.edge_patterns.proofs.RectangleLemmas.{hit_overlap, none_hit}
use Rattle.edge_patterns.proofs.queries.spread.Goals as goal

pub returns-in_default-clause-chain : goal.returns-in_default-clause-chain
returns-in_default-clause-chain c = λ _. no_reached _ _ c.in_default.ensures.hit

pub returns-in_default-clause-others : goal.returns-in_default-clause-others
returns-in_default-clause-others c = λ _. no_direct _ _ c.in_default.ensures.hit

pub returns-then-ne-clause-others : goal.returns-then-ne-clause-others
returns-then-ne-clause-others c = λ _. rw c.cells.ensures.cells (direct_covers c.args.e.now c.cells.ensures.edge c.args.q c.in-Some.hit c.in-Some.ensures.hit)

pub returns-then-refers_back-clause-chain : goal.returns-then-refers_back-clause-chain
returns-then-refers_back-clause-chain c = λ is.
    let edge = c.args.e.now in
    let chain = is_chain edge c.pattern.ensures.edge is in
    let before = goes_before edge chain (c.if-refers_back.ensures.0 refl) in
    rw (c.cells-then-refers_back.ensures.cells, c.len.ensures.len) (reached_onward edge chain c.args.q c.in-Some.hit
    c.in-Some.ensures.hit before c.pattern.ensures.edge)

pub returns-else-refers_back-clause-chain : goal.returns-else-refers_back-clause-chain
returns-else-refers_back-clause-chain c = λ is.
    let edge = c.args.e.now in
    let chain = is_chain edge c.pattern.ensures.edge is in
    let after = goes_after edge chain (refuted c.if-refers_back.ensures) in
    rw c.cells-else-refers_back.ensures.cells (reached_backward edge chain c.args.q c.in-Some.hit c.in-Some.ensures.hit after c.pattern.ensures.edge)

pub returns-in_default-clause-none : goal.returns-in_default-clause-none
returns-in_default-clause-none c = none_hit c.args.e.now c.in_default.ensures.edge c.args.q c.in_default.ensures.hit

pub returns-then-ne-clause-none : goal.returns-then-ne-clause-none
returns-then-ne-clause-none c = hit_overlap c.args.e.now c.in-Some.ensures.edge c.args.q c.in-Some.hit c.in-Some.ensures.hit

pub returns-then-refers_back-clause-none : goal.returns-then-refers_back-clause-none
returns-then-refers_back-clause-none c = hit_overlap c.args.e.now c.in-Some.ensures.edge c.args.q c.in-Some.hit c.in-Some.ensures.hit

pub returns-else-refers_back-clause-none : goal.returns-else-refers_back-clause-none
returns-else-refers_back-clause-none c = hit_overlap c.args.e.now c.in-Some.ensures.edge c.args.q c.in-Some.hit c.in-Some.ensures.hit
