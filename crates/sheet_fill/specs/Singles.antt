-- The edge of one cell of a filled run.
use Rattle.std.specs.Prelude.{◌≡◌, ℕ, Some}
use Rattle.sheet_refs.specs.Cells.{Corners}
use Rattle.sheet_refs.specs.Ends.{Reference, corners_of}
use Rattle.edge_patterns.specs.Axes.{axis_of, cell_along}
use Rattle.edge_patterns.specs.Edges.{EdgeValue, IsEdge, single_edge}
use Rattle.sheet_fill.specs.FilledRuns.{reference_along}

-- the edge of the cell with an index and of its range
pub record IsSingleAt (run : Corners) (reference : Reference) (index : ℕ) (edge : EdgeValue) : Type 0 where
  pub moved : Reference
  pub moved_is : reference_along (axis_of run) index reference ≡ Some moved
  pub is_edge : IsEdge edge
  pub edge_is : edge ≡ single_edge (cell_along (axis_of run) run index) (corners_of moved)
