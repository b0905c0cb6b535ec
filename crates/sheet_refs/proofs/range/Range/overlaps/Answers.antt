use Rattle.std.proofs.Common.{◌≡◌, ◌≤◌, max, min, arith, rules}
use Rattle.std.proofs.lemmas.Bool.{leb-true, le-leb}
use Rattle.sheet_refs.specs.Cells.{Corners}
use Rattle.sheet_refs.proofs.Overlaps.{AreCrossed, overlap_from, crossed_from}
use Rattle.sheet_refs.proofs.range.Range.overlaps.Goals as goal

pub returns-then-rows : goal.returns-then-rows
returns-then-rows c =
    let a : Corners = c.args.self.now in
    let b : Corners = c.args.other.now in
    let top : c.max.result ≡ max a.head.row b.head.row = search rules in
    let bottom : c.min.result ≡ min a.tail.row b.tail.row = search rules in
    let left : c.max-2.result ≡ max a.head.col b.head.col = search rules in
    let right : c.min-2.result ≡ min a.tail.col b.tail.col = search rules in
    let rows : c.max.result ≤ c.min.result = c.if-rows.true in (
      λ cols_true.
          let cols : c.max-2.result ≤ c.min-2.result = leb-true _ _ cols_true in
          overlap_from a b (search rules) (search rules) (record { rows = omega arith; rows_back = omega arith; cols = omega arith; cols_back = omega arith }),
      λ shared.
          let crossed : AreCrossed a b = crossed_from a b shared in
          le-leb _ _ (omega arith),
    )
