use Rattle.std.proofs.Common.{◌≡◌, ◌<◌, ◌∙◌, sym, ap}
use Rattle.sheet_refs.specs.Cells.{Position}
use Rattle.sheet_refs.proofs.Places.{next_in_row, next_row, none_behind}
use Rattle.sheet_refs.proofs.range.Range.cell_behind.Goals as goal

pub returns-then-col-clause-next : goal.returns-then-col-clause-next
returns-then-col-clause-next c =
    let last = c.col-2.ensures.col ∙ ap (λ (p : Position). p.col) c.tail-tail.ensures.tail in
    let same : c.col.result ≡ c.col-then-col.result = c.col.ensures.col ∙ sym c.col-then-col.ensures.col in
    let below : c.col-then-col.result < c.col-2.result = rw (← same) c.if-col.true in
    next_in_row c.args.self.now c.args.cell c.unwrap.result c.new.result c.row.result c.col-then-col.result
    c.col-2.result c.head-head.ensures.ordered c.row.ensures.row c.col-then-col.ensures.col last below
    c.new.ensures.position c.unwrap.ensures

pub returns-then-row-clause-next : goal.returns-then-row-clause-next
returns-then-row-clause-next c =
    let last = c.col-2.ensures.col ∙ ap (λ (p : Position). p.col) c.tail-tail.ensures.tail in
    let first = c.col-then-row.ensures.col ∙ ap (λ (p : Position). p.col) c.head-head.ensures.head in
    next_row c.args.self.now c.args.cell c.unwrap-then-row.result c.new-then-row.result c.row-then-row.result
    c.col.result c.col-2.result c.col-then-row.result c.head-head.ensures.ordered c.requires
    c.row-then-row.ensures.row c.col.ensures.col last first c.if-col.false c.new-then-row.ensures.position
    c.unwrap-then-row.ensures

pub returns-else-row-clause-next : goal.returns-else-row-clause-next
returns-else-row-clause-next c = λ place here below.
    let last_row = c.row-else-col-2.ensures.row ∙ ap (λ (p : Position). p.row) c.tail-tail.ensures.tail in
    let last_col = c.col-2.ensures.col ∙ ap (λ (p : Position). p.col) c.tail-tail.ensures.tail in
    absurd (none_behind c.args.self.now c.args.cell c.row-else-col.result c.col.result c.row-else-col-2.result
    c.col-2.result c.head-head.ensures.ordered c.row-else-col.ensures.row c.col.ensures.col last_row last_col
    c.if-col.false c.if-row.false place here below)
