-- A compressed graph, as contracts see it.
use Rattle.std.specs.Prelude.{ℕ, List}
use Rattle.edge_patterns.specs.Edges.{EdgeValue}

-- its edges, and for how many changes of a cell there is room
pub record TacoValue : Type 0 where
  pub edges : List EdgeValue
  pub spare : ℕ
