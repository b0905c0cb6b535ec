-- The order in which two edges are joined doesn't matter.
use Rattle.std.proofs.Common.{◌⊎◌, inl, inr}
use Rattle.std.specs.Prelude.{Option, Some, None}
use Rattle.sheet_refs.specs.Names.{Finds}
use Rattle.edge_patterns.specs.Edges.{EdgeValue}
use Rattle.edge_patterns.specs.Joins.{AreNeighbours, HasBothPairs, IsJoin}

flip : {A B : Type 0} → A ⊎ B → B ⊎ A
flip (inl a) = inr a
flip (inr b) = inl b

pub union_flipped : (a b joined : EdgeValue) → HasBothPairs a b joined → HasBothPairs b a joined
union_flipped a b joined union = record {
  is_edge = union.is_edge;
  pairs = λ range cell. (λ pair. flip ((union.pairs range cell).0 pair), λ either. (union.pairs range cell).1 (flip either));
}

pub finds_flipped : (a b : EdgeValue) (result : Option EdgeValue) → Finds result (HasBothPairs a b) → Finds result (HasBothPairs b a)
finds_flipped a b None none = λ joined union. none joined (union_flipped b a joined union)
finds_flipped a b (Some joined) union = union_flipped a b joined union

-- a union of neighbours is what they are joined into
pub finds_join : (a b : EdgeValue) (result : Option EdgeValue) → AreNeighbours a.dep b.dep → Finds result (HasBothPairs a b) → Finds result (IsJoin a b)
finds_join a b None neighbours none = λ joined join. none joined join.union
finds_join a b (Some joined) neighbours union = record { neighbours = neighbours; union = union }
