-- Two ranges overlap exactly where neither ends before the other begins, by rows and by columns.
use Rattle.std.proofs.Common.{◌≤◌, max, arith}
use Rattle.sheet_refs.specs.Cells.{Corners, IsOrdered}
use Rattle.sheet_refs.specs.Rectangles.{Overlap}

-- neither range ends before the other begins
pub record AreCrossed (a b : Corners) : Type 0 where
  pub rows : a.head.row ≤ b.tail.row
  pub rows_back : b.head.row ≤ a.tail.row
  pub cols : a.head.col ≤ b.tail.col
  pub cols_back : b.head.col ≤ a.tail.col

-- the lower of the two heads is shared then
pub overlap_from : (a b : Corners) → IsOrdered a.head a.tail → IsOrdered b.head b.tail → AreCrossed a b → Overlap a b
overlap_from a b a_ordered b_ordered crossed =
    let row = max a.head.row b.head.row in
    let col = max a.head.col b.head.col in (
      record { row = row; col = col },
      record {
        first = record { row_from = omega arith; row_to = omega arith; col_from = omega arith; col_to = omega arith };
        second = record { row_from = omega arith; row_to = omega arith; col_from = omega arith; col_to = omega arith };
      },
    )

pub crossed_from : (a b : Corners) → Overlap a b → AreCrossed a b
crossed_from a b (cell, shared) = record { rows = omega arith; rows_back = omega arith; cols = omega arith; cols_back = omega arith }
