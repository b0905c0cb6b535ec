use Rattle.sheet_refs.proofs.Overlaps.{crossed_from, overlap_from}
use Rattle.tree_index.proofs.rectangles.meet.Goals as goal

pub returns : goal.returns
returns c = (
  λ holds.
      let crossed = c.are_crossed.ensures.0 holds in
      overlap_from c.args.a c.args.b c.head.ensures.ordered c.head-2.ensures.ordered
      (record { rows = crossed.rows; rows_back = crossed.rows_back; cols = crossed.cols; cols_back = crossed.cols_back }),
  λ overlap.
      let crossed = crossed_from c.args.a c.args.b overlap in
      c.are_crossed.ensures.1 (record { rows = crossed.rows; rows_back = crossed.rows_back; cols = crossed.cols; cols_back = crossed.cols_back }),
)
