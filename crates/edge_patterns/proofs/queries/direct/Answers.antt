use Rattle.edge_patterns.proofs.QueryLemmas.{direct_covers, no_direct}
use Rattle.edge_patterns.proofs.RectangleLemmas.{hit_overlap, none_hit}
use Rattle.edge_patterns.proofs.queries.direct.Goals as goal

pub returns-in_default-clause-covers : goal.returns-in_default-clause-covers
returns-in_default-clause-covers c = no_direct _ _ c.in_default.ensures.hit

pub returns-in_default-clause-none : goal.returns-in_default-clause-none
returns-in_default-clause-none c = none_hit c.args.e.now c.in_default.ensures.edge c.args.q c.in_default.ensures.hit

pub returns-clause-covers : goal.returns-clause-covers
returns-clause-covers c = rw c.cells.ensures.cells (direct_covers c.args.e.now c.cells.ensures.edge c.args.q c.in-Some.hit c.in-Some.ensures.hit)

pub returns-clause-none : goal.returns-clause-none
returns-clause-none c = hit_overlap c.args.e.now c.in-Some.ensures.edge c.args.q c.in-Some.hit c.in-Some.ensures.hit
