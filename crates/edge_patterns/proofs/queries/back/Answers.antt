use Rattle.std.proofs.Common.{refl}
use Rattle.edge_patterns.proofs.ChainLemmas.{is_chain, goes_before, goes_after, refuted, led_before, led_after}
use Rattle.edge_patterns.proofs.QueryLemmas.{no_referred, no_led}
use Rattle.edge_patterns.proofs.ReferredLemmas.{referred_covers}
use Rattle.edge_patterns.proofs.RectangleLemmas.{asked_overlap, none_asked}
use Rattle.edge_patterns.proofs.queries.back.Goals as goal

pub returns-in_default-clause-chain : goal.returns-in_default-clause-chain
returns-in_default-clause-chain c = λ _. no_led _ _ c.in_default.ensures.asked

pub returns-in_default-clause-others : goal.returns-in_default-clause-others
returns-in_default-clause-others c = λ _. no_referred _ _ c.in_default.ensures.asked

pub returns-then-ne-clause-others : goal.returns-then-ne-clause-others
returns-then-ne-clause-others c =
    λ _. rw c.ranges-then-ne.ensures.ranges (referred_covers c.args.e.now c.pattern.ensures.edge c.args.q
    c.in-Some.asked c.in-Some.ensures.asked)

pub returns-then-refers_back-clause-chain : goal.returns-then-refers_back-clause-chain
returns-then-refers_back-clause-chain c = λ is.
    let edge = c.args.e.now in
    let chain = is_chain edge c.pattern.ensures.edge is in
    let before = goes_before edge chain (c.if-refers_back.ensures.0 refl) in
    rw c.ranges-then-refers_back.ensures.ranges (led_before edge chain c.args.q c.in-Some.asked c.in-Some.ensures.asked before)

pub returns-else-refers_back-clause-chain : goal.returns-else-refers_back-clause-chain
returns-else-refers_back-clause-chain c = λ is.
    let edge = c.args.e.now in
    let chain = is_chain edge c.pattern.ensures.edge is in
    let after = goes_after edge chain (refuted c.if-refers_back.ensures) in
    rw (c.ranges-else-refers_back.ensures.ranges, c.len.ensures.len) (led_after edge chain c.args.q c.in-Some.asked c.in-Some.ensures.asked after)

pub returns-in_default-clause-none : goal.returns-in_default-clause-none
returns-in_default-clause-none c = none_asked c.args.e.now c.in_default.ensures.edge c.args.q c.in_default.ensures.asked

pub returns-then-ne-clause-none : goal.returns-then-ne-clause-none
returns-then-ne-clause-none c = asked_overlap c.args.e.now c.in-Some.ensures.edge c.args.q c.in-Some.asked c.in-Some.ensures.asked

pub returns-then-refers_back-clause-none : goal.returns-then-refers_back-clause-none
returns-then-refers_back-clause-none c = asked_overlap c.args.e.now c.in-Some.ensures.edge c.args.q c.in-Some.asked c.in-Some.ensures.asked

pub returns-else-refers_back-clause-none : goal.returns-else-refers_back-clause-none
returns-else-refers_back-clause-none c = asked_overlap c.args.e.now c.in-Some.ensures.edge c.args.q c.in-Some.asked c.in-Some.ensures.asked
