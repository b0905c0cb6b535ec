-- Ranges, their overlaps and their cells, by coordinates along and across a direction.
use Rattle.std.proofs.Common.{◌≡◌, ℕ, ◌≤◌, refl}
use Rattle.sheet_refs.specs.Cells.{Position, Corners, IsIn, IsOrdered}
use Rattle.sheet_refs.specs.Rectangles.{Overlap}
use Rattle.sheet_refs.proofs.Overlaps.{overlap_from, crossed_from}
use Rattle.edge_patterns.specs.declared.axis.Axis.{Axis}
use Rattle.edge_patterns.specs.declared.axis.Axis.TheVariants.{Down, Right}
use Rattle.edge_patterns.specs.Axes.{along, across, position_at}

-- a cell lies between the coordinates of a range's corners
pub record Lies (axis : Axis) (cell : Position) (range : Corners) : Type 0 where
  pub from : along axis range.head ≤ along axis cell
  pub to : along axis cell ≤ along axis range.tail
  pub left : across axis range.head ≤ across axis cell
  pub right : across axis cell ≤ across axis range.tail

pub lies : (axis : Axis) (cell : Position) (range : Corners) → IsIn cell range → Lies axis cell range
lies Down cell range is = record { from = is.row_from; to = is.row_to; left = is.col_from; right = is.col_to }
lies Right cell range is = record { from = is.col_from; to = is.col_to; left = is.row_from; right = is.row_to }

pub is_in : (axis : Axis) (cell : Position) (range : Corners) → Lies axis cell range → IsIn cell range
is_in Down cell range is = record { row_from = is.from; row_to = is.to; col_from = is.left; col_to = is.right }
is_in Right cell range is = record { row_from = is.left; row_to = is.right; col_from = is.from; col_to = is.to }

-- a range's corners are in order
pub record Ordered (axis : Axis) (range : Corners) : Type 0 where
  pub line : along axis range.head ≤ along axis range.tail
  pub width : across axis range.head ≤ across axis range.tail

pub ordered : (axis : Axis) (range : Corners) → IsOrdered range.head range.tail → Ordered axis range
ordered Down range is = record { line = is.rows; width = is.cols }
ordered Right range is = record { line = is.cols; width = is.rows }

pub is_ordered : (axis : Axis) (range : Corners) → Ordered axis range → IsOrdered range.head range.tail
is_ordered Down range is = record { rows = is.line; cols = is.width }
is_ordered Right range is = record { rows = is.width; cols = is.line }

-- neither of two ranges ends before the other begins
pub record Crossed (axis : Axis) (a b : Corners) : Type 0 where
  pub begins : along axis a.head ≤ along axis b.tail
  pub ends : along axis b.head ≤ along axis a.tail
  pub left : across axis a.head ≤ across axis b.tail
  pub right : across axis b.head ≤ across axis a.tail

pub crossed : (axis : Axis) (a b : Corners) → Overlap a b → Crossed axis a b
crossed Down a b overlap = let is = crossed_from a b overlap in record { begins = is.rows; ends = is.rows_back; left = is.cols; right = is.cols_back }
crossed Right a b overlap = let is = crossed_from a b overlap in record { begins = is.cols; ends = is.cols_back; left = is.rows; right = is.rows_back }

pub overlap : (axis : Axis) (a b : Corners) → IsOrdered a.head a.tail → IsOrdered b.head b.tail → Crossed axis a b → Overlap a b
overlap Down a b a_ordered b_ordered is =
    overlap_from a b a_ordered b_ordered (record {
      rows = is.begins;
      rows_back = is.ends;
      cols = is.left;
      cols_back = is.right;
    })
overlap Right a b a_ordered b_ordered is =
    overlap_from a b a_ordered b_ordered (record {
      rows = is.left;
      rows_back = is.right;
      cols = is.begins;
      cols_back = is.ends;
    })

-- the coordinates of a cell that is made of them, and the cell that is made of a cell's
pub along_of : (axis : Axis) (line index : ℕ) → along axis (position_at axis line index) ≡ line
along_of Down line index = refl
along_of Right line index = refl

pub across_of : (axis : Axis) (line index : ℕ) → across axis (position_at axis line index) ≡ index
across_of Down line index = refl
across_of Right line index = refl

pub cell_again : (axis : Axis) (cell : Position) → position_at axis (along axis cell) (across axis cell) ≡ cell
cell_again Down cell = refl
cell_again Right cell = refl
