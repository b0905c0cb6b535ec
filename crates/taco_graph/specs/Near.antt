-- Which edges lie near one another, as edges do that can be joined.
use Rattle.std.specs.Prelude.{ℕ, ◌+◌, ◌<◌}
use Rattle.edge_patterns.specs.declared.axis.Axis.{Axis}
use Rattle.edge_patterns.specs.Axes.{along, count_along}
use Rattle.edge_patterns.specs.Edges.{EdgeValue}
use Rattle.edge_patterns.specs.Joins.{IsAsWide}

-- two coordinates are less than so many cells apart
abbrev pub AreWithin : ℕ → ℕ → ℕ → Type 0
AreWithin a b cells = (a < b + cells) × (b < a + cells)

-- the rectangles of two edges lie as those of edges in one direction do that can be joined: between the same coordinates across it, and
-- along it their ends are less far apart than the two runs have cells
pub record LieNear (axis : Axis) (a b : EdgeValue) : Type 0 where
  pub wide : IsAsWide axis a.prec b.prec
  pub head : AreWithin (along axis a.prec.head) (along axis b.prec.head) (count_along axis a.dep + count_along axis b.dep)
  pub tail : AreWithin (along axis a.prec.tail) (along axis b.prec.tail) (count_along axis a.dep + count_along axis b.dep)
