-- The cells to which the cells of a chain refer stand to them as the rectangle stands to the run.
use Rattle.std.proofs.Common.{◌≡◌, ℕ, ◌+◌, ◌-◌, ◌<◌, ◌≤◌, inl, inr, arith, sym, subst}
use Rattle.std.specs.Prelude.{◌↔◌}
use Rattle.sheet_refs.specs.Cells.{Position, Corners, IsIn, IsOrdered, IsNamed, span_of}
use Rattle.sheet_refs.specs.Rectangles.{HoldsShared}
use Rattle.edge_patterns.specs.declared.axis.Axis.{Axis}
use Rattle.edge_patterns.specs.declared.axis.Axis.TheVariants.{Down, Right}
use Rattle.edge_patterns.specs.declared.edge.Pattern.{Pattern}
use Rattle.edge_patterns.specs.declared.edge.Pattern.TheVariants.{Chain}
use Rattle.edge_patterns.specs.Axes.{axis_of, IsLine, count_along, cell_along}
use Rattle.edge_patterns.specs.Edges.{EdgeValue, IsEdge, IsShapeOf, IsBeside, IsPair, range_along, range_at}
use Rattle.edge_patterns.specs.Queries.{IsReferred}
use Rattle.edge_patterns.proofs.UnionLemmas.{run_has_ranges}

pub head_in : (range : Corners) → IsOrdered range.head range.tail → IsIn range.head range
head_in range ordered = record { row_from = omega arith; row_to = ordered.rows; col_from = omega arith; col_to = ordered.cols }

pub tail_in : (range : Corners) → IsOrdered range.head range.tail → IsIn range.tail range
tail_in range ordered = record { row_from = ordered.rows; row_to = omega arith; col_from = ordered.cols; col_to = omega arith }

pub shared_of : (dep run query asked : Corners) → run ≡ dep → HoldsShared run query asked → HoldsShared dep query asked
shared_of dep run query asked same shared = subst (λ (r : Corners). HoldsShared r query asked) same shared

pub first_in : (dep run query asked : Corners) → run ≡ dep → HoldsShared run query asked → IsOrdered asked.head asked.tail → IsIn asked.head dep
first_in dep run query asked same shared ordered = (((shared_of dep run query asked same shared) asked.head).0 (head_in asked ordered)).first

pub last_in : (dep run query asked : Corners) → run ≡ dep → HoldsShared run query asked → IsOrdered asked.head asked.tail → IsIn asked.tail dep
last_in dep run query asked same shared ordered = (((shared_of dep run query asked same shared) asked.tail).0 (tail_in asked ordered)).first

-- the range is one cell, which stands to the cell as the rectangle stands to the run
record IsMoved (edge : EdgeValue) (range : Corners) (cell : Position) : Type 0 where
  head_row : range.head.row + edge.dep.head.row ≡ cell.row + edge.prec.head.row
  head_col : range.head.col + edge.dep.head.col ≡ cell.col + edge.prec.head.col
  tail_row : range.tail.row + edge.dep.head.row ≡ cell.row + edge.prec.head.row
  tail_col : range.tail.col + edge.dep.head.col ≡ cell.col + edge.prec.head.col

moved_at : (axis : Axis) (edge : EdgeValue) → edge.pattern ≡ Chain → IsBeside axis edge.dep edge.prec
    → IsLine axis edge.dep → IsOrdered edge.dep.head edge.dep.tail → (index : ℕ) → index < count_along axis edge.dep
    → IsMoved edge (range_along axis edge index) (cell_along axis edge.dep index)
moved_at Down edge chain beside line ordered index within = elim beside.moved [
  | inl on ↦ rw chain (record {
    head_row = omega arith;
    head_col = omega (arith, beside.head);
    tail_row = omega (arith, on.0, on.1, within, ordered.rows);
    tail_col = omega (
      arith,
      beside.head,
      beside.tail,
      line,
    );
  })
  | inr back ↦ rw chain (record {
    head_row = omega arith;
    head_col = omega (arith, beside.head);
    tail_row = omega (arith, back.0, back.1, within, ordered.rows);
    tail_col = omega (
      arith,
      beside.head,
      beside.tail,
      line,
    );
  })
]
moved_at Right edge chain beside line ordered index within = elim beside.moved [
  | inl on ↦ rw chain (record {
    head_col = omega arith;
    head_row = omega (arith, beside.head);
    tail_col = omega (arith, on.0, on.1, within, ordered.cols);
    tail_row = omega (
      arith,
      beside.head,
      beside.tail,
      line,
    );
  })
  | inr back ↦ rw chain (record {
    head_col = omega arith;
    head_row = omega (arith, beside.head);
    tail_col = omega (arith, back.0, back.1, within, ordered.cols);
    tail_row = omega (
      arith,
      beside.head,
      beside.tail,
      line,
    );
  })
]

-- the rectangle ends as far behind its head as the run does
record IsAlike (edge : EdgeValue) : Type 0 where
  rows : edge.prec.tail.row + edge.dep.head.row ≡ edge.dep.tail.row + edge.prec.head.row
  cols : edge.prec.tail.col + edge.dep.head.col ≡ edge.dep.tail.col + edge.prec.head.col

alike : (axis : Axis) (edge : EdgeValue) → IsBeside axis edge.dep edge.prec → IsAlike edge
alike Down edge beside = elim beside.moved [
  | inl on ↦ record { rows = omega (arith, on.0, on.1); cols = omega (arith, beside.head, beside.tail) }
  | inr back ↦ record { rows = omega (arith, back.0, back.1); cols = omega (arith, beside.head, beside.tail) }
]
alike Right edge beside = elim beside.moved [
  | inl on ↦ record { cols = omega (arith, on.0, on.1); rows = omega (arith, beside.head, beside.tail) }
  | inr back ↦ record { cols = omega (arith, back.0, back.1); rows = omega (arith, beside.head, beside.tail) }
]

module _ (edge : EdgeValue) (is : IsEdge edge) (chain : edge.pattern ≡ Chain) where
  beside : IsBeside (axis_of edge.dep) edge.dep edge.prec
  beside = (subst (λ (pattern : Pattern). IsShapeOf (axis_of edge.dep) pattern edge) chain is.shape).1

  pair_moved : (range : Corners) (cell : Position) → IsPair edge range cell → IsMoved edge range cell
  pair_moved range cell pair =
      subst (λ (r : Corners). IsMoved edge r cell) (sym pair.range_is)
      (subst (λ (c : Position). IsMoved edge (range_at edge pair.index) c) (sym pair.cell_is)
      (moved_at (axis_of edge.dep) edge chain beside is.line is.dep.ordered pair.index pair.within))

  -- a cell that stands to one of the run as the rectangle stands to the run has a name
  pub is_named : (cell : Position) → IsIn cell edge.dep → IsNamed (cell.row - edge.dep.head.row + edge.prec.head.row)
      (cell.col - edge.dep.head.col + edge.prec.head.col)
  is_named cell inside =
      let same = alike (axis_of edge.dep) edge beside in
      let rows = same.rows in
      let cols = same.cols in
      record {
        row_from = omega (arith, is.prec.head.row_from);
        row_to = omega (arith, is.prec.tail.row_to, inside.row_from, inside.row_to, rows);
        col_from = omega (arith, is.prec.head.col_from);
        col_to = omega (arith, is.prec.tail.col_to, inside.col_from, inside.col_to, cols);
      }

  module _ (query asked : Corners) (head tail : Position) (shared : HoldsShared edge.dep query asked)
      (ordered : IsOrdered asked.head asked.tail)
      (head_row : head.row + edge.dep.head.row ≡ asked.head.row + edge.prec.head.row)
      (head_col : head.col + edge.dep.head.col ≡ asked.head.col + edge.prec.head.col)
      (tail_row : tail.row + edge.dep.head.row ≡ asked.tail.row + edge.prec.head.row)
      (tail_col : tail.col + edge.dep.head.col ≡ asked.tail.col + edge.prec.head.col) where
    pub moved_covers : (cell : Position) → IsIn cell (span_of head tail) ↔ IsReferred edge query cell
    moved_covers cell = (to, from)
      where
        rows : head.row ≤ tail.row
        rows = omega (arith, ordered.rows, head_row, tail_row)

        cols : head.col ≤ tail.col
        cols = omega (arith, ordered.cols, head_col, tail_col)

        to : IsIn cell (span_of head tail) → IsReferred edge query cell
        to inside =
            let source : Position = record {
              row = cell.row + edge.dep.head.row - edge.prec.head.row;
              col = cell.col + edge.dep.head.col - edge.prec.head.col;
            } in
            let within : IsIn source asked = record {
              row_from = omega (arith, inside.row_from, head_row, rows);
              row_to = omega (arith, inside.row_to, tail_row, rows);
              col_from = omega (arith, inside.col_from, head_col, cols);
              col_to = omega (arith, inside.col_to, tail_col, cols);
            } in
            let both = (shared source).0 within in
            let (range, pair) = (run_has_ranges edge is source).0 both.first in
            let at = pair_moved range source pair in
            record {
              from = source;
              range = range;
              asked = both.second;
              pair = pair;
              inside = record {
                row_from = omega (arith, at.head_row, within.row_from, inside.row_from, head_row, rows);
                row_to = omega (arith, at.tail_row, within.row_from, inside.row_from, head_row, rows);
                col_from = omega (arith, at.head_col, within.col_from, inside.col_from, head_col, cols);
                col_to = omega (arith, at.tail_col, within.col_from, inside.col_from, head_col, cols);
              };
            }

        from : IsReferred edge query cell → IsIn cell (span_of head tail)
        from referred =
            let at = pair_moved referred.range referred.from referred.pair in
            let in_run = (run_has_ranges edge is referred.from).1 (referred.range, referred.pair) in
            let within = (shared referred.from).1 (record { first = in_run; second = referred.asked }) in
            record {
              row_from = omega (arith, at.head_row, within.row_from, referred.inside.row_from, head_row, rows);
              row_to = omega (arith, at.tail_row, within.row_to, referred.inside.row_to, tail_row, rows);
              col_from = omega (arith, at.head_col, within.col_from, referred.inside.col_from, head_col, cols);
              col_to = omega (arith, at.tail_col, within.col_to, referred.inside.col_to, tail_col, cols);
            }
