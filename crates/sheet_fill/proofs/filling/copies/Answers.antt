use Rattle.std.proofs.Common.{◌≡◌, ◌<◌, ◌≢◌, arith, get_or, length, sym, ap, ◌∙◌}
use Rattle.std.proofs.lemmas.Option.{get_or_from_slice_get}
use Rattle.sheet_refs.specs.Cells.{cells_of}
use Rattle.sheet_model.specs.Sheets.{ContentValue}
use Rattle.sheet_fill.specs.Filling.{copied}
use Rattle.sheet_fill.proofs.FillLemmas.{filled_more, filled_past}
use Rattle.sheet_fill.proofs.OtherLemmas.{told_apart, told_same}
use Rattle.sheet_fill.proofs.filling.copies.Goals as goal

pub loop-place-preserved-then-eq : goal.loop-place-preserved-then-eq
loop-place-preserved-then-eq c =
    let cells = cells_of c.args.to.now in
    let below : c.loop-place.place < length cells = omega (arith, c.loop-place-test.true, c.cells-place-end.ensures.count) in
    let at : c.cell_at-cell.result ≡ get_or cells c.loop-place.place c.cell_at-cell.result =
    sym (get_or_from_slice_get cells c.loop-place.place c.cell_at-cell.result c.cell_at-cell.result c.cell_at-cell.ensures.listed) in
    filled_past c.args.sheet.now c.args.from c.args.to.now c.loop-place.place c.cell_at-cell.result c.loop-place.changes.items below at
    (told_same c.cell_at-cell.result c.args.from (sym c.eq.ensures ∙ c.if-eq.true)) c.loop-place.invariant

pub loop-place-preserved : goal.loop-place-preserved
loop-place-preserved c =
    let cells = cells_of c.args.to.now in
    let cell = c.cell_at-cell.result in
    let below : c.loop-place.place < length cells = omega (arith, c.loop-place-test.true, c.cells-place-end.ensures.count) in
    let at : cell ≡ get_or cells c.loop-place.place cell = sym (get_or_from_slice_get cells c.loop-place.place cell cell c.cell_at-cell.ensures.listed) in
    let differs : cell ≢ c.args.from = λ same. told_apart cell c.args.from (sym c.eq.ensures ∙ c.if-eq.false) (sym same) in
    let content = c.in_ok-content.ensures.copied ∙ ap (copied c.args.from cell) c.content-source.ensures.content in
    c.in_ok-push.ensures.items
    ∙ filled_more c.args.sheet.now c.args.from c.args.to.now c.loop-place.place cell c.loop-place.changes.items _ below at differs
    (ap (λ (x : ContentValue). record { cell = cell; content = x }) content) c.loop-place.invariant
