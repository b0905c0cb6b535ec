use Rattle.std.proofs.Common.{◌≡◌, ◌+◌, ◌-◌, ◌/◌, ◌%◌, ◌<◌, Some, sym, ap, ◌∙◌, arith}
use Rattle.sheet_refs.specs.Cells.{Position, IsIn, width, height}
use Rattle.sheet_refs.proofs.Places.{range_place, place_bounds, place_inside, made_at}
use Rattle.sheet_refs.proofs.range.Range.cell_at.Goals as goal

pub overflow_cast-row : goal.overflow_cast-row
overflow_cast-row c =
    let r = c.args.self.now in
    let left : c.col-2.result ≡ r.head.col = c.col-2.ensures.col ∙ ap (λ (p : Position). p.col) c.head-head.ensures.head in
    let right : c.col.result ≡ r.tail.col = c.col.ensures.col ∙ ap (λ (p : Position). p.col) c.tail.ensures.tail in
    let bottom : c.tail.result.row ≡ r.tail.row = ap (λ (p : Position). p.row) c.tail.ensures.tail in
    let bounds = place_bounds r c.args.place c.col-2.result c.col.result c.from-width.result c.tail.ensures.ordered
    c.requires left right c.from-width.ensures in
    omega (arith, bounds.0, bottom, c.col.ensures.named.row_to)

pub overflow_add-row : goal.overflow_add-row
overflow_add-row c =
    let r = c.args.self.now in
    let left : c.col-2.result ≡ r.head.col = c.col-2.ensures.col ∙ ap (λ (p : Position). p.col) c.head-head.ensures.head in
    let right : c.col.result ≡ r.tail.col = c.col.ensures.col ∙ ap (λ (p : Position). p.col) c.tail.ensures.tail in
    let bottom : c.tail.result.row ≡ r.tail.row = ap (λ (p : Position). p.row) c.tail.ensures.tail in
    let top : c.head-head.result.row ≡ r.head.row = ap (λ (p : Position). p.row) c.head-head.ensures.head in
    let bounds = place_bounds r c.args.place c.col-2.result c.col.result c.from-width.result c.tail.ensures.ordered
    c.requires left right c.from-width.ensures in
    omega (arith, bounds.0, bottom, top, c.col.ensures.named.row_to, c.row.ensures.row, c.tail.ensures.ordered.rows)

pub unwrap-requires : goal.unwrap-requires
unwrap-requires c =
    let r = c.args.self.now in
    let left : c.col-2.result ≡ r.head.col = c.col-2.ensures.col ∙ ap (λ (p : Position). p.col) c.head-head.ensures.head in
    let right : c.col.result ≡ r.tail.col = c.col.ensures.col ∙ ap (λ (p : Position). p.col) c.tail.ensures.tail in
    let here : c.col-3.result ≡ r.head.col = c.col-3.ensures.col ∙ ap (λ (p : Position). p.col) c.head-head.ensures.head in
    let bottom : c.tail.result.row ≡ r.tail.row = ap (λ (p : Position). p.row) c.tail.ensures.tail in
    let top : c.row.result ≡ r.head.row = c.row.ensures.row ∙ ap (λ (p : Position). p.row) c.head-head.ensures.head in
    let bounds = place_bounds r c.args.place c.col-2.result c.col.result c.from-width.result c.tail.ensures.ordered
    c.requires left right c.from-width.ensures in
    let ordered = c.tail.ensures.ordered in
    let tail = c.col.ensures.named in
    let head = c.col-3.ensures.named in
    c.new.ensures.named.1 (record {
      row_from = omega (arith, head.row_from, c.row.ensures.row);
      row_to = omega (arith, bounds.0, bottom, top, tail.row_to, ordered.rows);
      col_from = omega (arith, head.col_from, c.col-3.ensures.col);
      col_to = omega (arith, bounds.1, here, right, c.col.ensures.col, tail.col_to, ordered.cols);
    })

pub returns : goal.returns
returns c =
    let r = c.args.self.now in
    let left : c.col-2.result ≡ r.head.col = c.col-2.ensures.col ∙ ap (λ (p : Position). p.col) c.head-head.ensures.head in
    let right : c.col.result ≡ r.tail.col = c.col.ensures.col ∙ ap (λ (p : Position). p.col) c.tail.ensures.tail in
    let here : c.col-3.result ≡ r.head.col = c.col-3.ensures.col ∙ ap (λ (p : Position). p.col) c.head-head.ensures.head in
    let top : c.row.result ≡ r.head.row = c.row.ensures.row ∙ ap (λ (p : Position). p.row) c.head-head.ensures.head in
    let bounds = place_bounds r c.args.place c.col-2.result c.col.result c.from-width.result c.tail.ensures.ordered
    c.requires left right c.from-width.ensures in
    let cell = made_at r c.args.place c.from-width.result c.row.result c.col-3.result c.new.result c.unwrap.result
    c.requires bounds.2 top here c.new.ensures.position c.unwrap.ensures in
    record {
      cell = cell;
      listed = (range_place r c.args.place c.requires).cell ∙ ap Some (sym cell);
      inside = rw cell (place_inside r c.args.place c.tail.ensures.ordered c.requires);
    }
