use Rattle.std.proofs.Common.{inr, refl}
use Rattle.edge_patterns.specs.declared.axis.Axis.TheVariants.{Down, Right}
use Rattle.edge_patterns.proofs.FlipLemmas.{finds_flipped, finds_join}
use Rattle.edge_patterns.proofs.joins.join.Goals as goal

pub returns-then-follows-clause-either_order : goal.returns-then-follows-clause-either_order
returns-then-follows-clause-either_order c =
    finds_join _ _ c.union_of.result (Down, inr (c.if-follows.ensures.0 refl)) (finds_flipped _ _ c.union_of.result c.union_of.ensures)

pub returns-then-follows-2-clause-joined : goal.returns-then-follows-2-clause-joined
returns-then-follows-2-clause-joined c =
    finds_join _ _ c.union_of-then-follows-2.result (Down, inr (c.if-follows-2.ensures.0 refl))
    (finds_flipped _ _ c.union_of-then-follows-2.result c.union_of-then-follows-2.ensures)

pub returns-then-follows-3-clause-either_order : goal.returns-then-follows-3-clause-either_order
returns-then-follows-3-clause-either_order c =
    finds_join _ _ c.union_of-then-follows-3.result (Right, inr (c.if-follows-3.ensures.0 refl))
    (finds_flipped _ _ c.union_of-then-follows-3.result c.union_of-then-follows-3.ensures)

pub returns-then-follows-4-clause-joined : goal.returns-then-follows-4-clause-joined
returns-then-follows-4-clause-joined c =
    finds_join _ _ c.union_of-then-follows-4.result (Right, inr (c.if-follows-4.ensures.0 refl))
    (finds_flipped _ _ c.union_of-then-follows-4.result c.union_of-then-follows-4.ensures)
