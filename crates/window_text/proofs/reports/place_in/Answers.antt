use Rattle.std.proofs.Common.{◌≡◌, ◌+◌, ◌-◌, ◌*◌, ◌<◌, length, ap, arith, ◌∙◌}
use Rattle.std.proofs.lemmas.Nat.{mul-add-lt}
use Rattle.sheet_refs.specs.Cells.{Position, cells_of, height, width}
use Rattle.sheet_refs.proofs.Grid.{rows_length}
use Rattle.window_text.proofs.reports.place_in.Goals as goal

pub returns-clause-within : goal.returns-clause-within
returns-clause-within c =
    let w = c.args.window in
    let h = c.requires.inside in
    let row : c.row.result ≡ w.head.row = c.row.ensures.row ∙ ap (λ (p : Position). p.row) c.head-2.ensures.head in
    let left : c.col-2.result ≡ w.head.col = c.col-2.ensures.col ∙ ap (λ (p : Position). p.col) c.head.ensures.head in
    let again : c.col-3.result ≡ w.head.col = c.col-3.ensures.col ∙ ap (λ (p : Position). p.col) c.head-3.ensures.head in
    let right : c.col.result ≡ w.tail.col = c.col.ensures.col ∙ ap (λ (p : Position). p.col) c.tail.ensures.tail in
    let wide : c.col.result - c.col-2.result + 1 ≡ width w = omega (arith, left, right, h.col_from, h.col_to) in
    let high : c.args.row - w.head.row < height w = omega (arith, h.row_from, h.row_to) in
    let far : c.args.col - w.head.col < width w = omega (arith, h.col_from, h.col_to) in
    let all : length (cells_of w) ≡ height w * width w = rows_length w w.head.row (height w) in
    let below = mul-add-lt (c.args.row - w.head.row) (width w) (c.args.col - w.head.col) (height w) high far in
    rw (row, wide, again) (omega (arith, all, below))
