use Rattle.std.proofs.Common.{◌≡◌, ◌≤◌, ◌<◌, ◌+◌, true, false, ℕ, [], ◌∷◌, ap, ap₂, sym, ◌∙◌, subst, arith}
use Rattle.sheet_refs.specs.Cells.{Position}
use Rattle.sheet_model.specs.Values.{value_of}
use Rattle.text_pieces.specs.Pieces.{HandsOut}
use Rattle.window_text.specs.Texts.{row_text, shown_cell, shown_value}
use Rattle.text_pieces.proofs.PieceLemmas.{Completes, begun, next, ended, cut}
use Rattle.window_text.proofs.RowLemmas.{row_rest, row_begins, row_goes_on, row_ends, cell_made}
use Rattle.window_text.proofs.StopLemmas.{stopped}
use Rattle.window_text.proofs.windows.send_row.Goals as goal

pub returns-in_err-send_value-clause-sent : goal.returns-in_err-send_value-clause-sent
returns-in_err-send_value-clause-sent g c =
    stopped g.F.FnMut _ _ _ _ c.from_residual.ensures.0 (
    let shown = shown_cell c.args.sheet.now in
    let col : c.col.result ≡ c.args.range.head.col = c.col.ensures.col ∙ ap (λ (cell : Position). cell.col) c.head.ensures.head in
    let cell = cell_made c.new.result c.unwrap-first.result c.args.row c.col.result c.new.ensures.position
    c.unwrap-first.ensures ∙ ap (λ (n : ℕ). record { row = c.args.row; col = n }) col in
    let said = ap₂ shown_value c.labels.ensures.labels (c.value_at.ensures ∙ ap (value_of c.args.sheet.now) cell) in
    subst (λ t. HandsOut g.F.FnMut c.args.to.now t false c.send_value.new.to) (sym (row_begins shown c.args.range c.args.row c.head.ensures.ordered.cols))
    (cut g.F.FnMut _ _ _ _ (subst (λ t. HandsOut g.F.FnMut c.args.to.now t false c.send_value.new.to) said c.in_err-send_value.ensures.sent)))

pub loop-col-init : goal.loop-col-init
loop-col-init g c =
    let shown = shown_cell c.args.sheet.now in
    let col : c.col.result ≡ c.args.range.head.col = c.col.ensures.col ∙ ap (λ (cell : Position). cell.col) c.head.ensures.head in
    let again : c.col-col.result ≡ c.args.range.head.col = c.col-col.ensures.col ∙ ap (λ (cell : Position). cell.col) c.head-2.ensures.head in
    let cell = cell_made c.new.result c.unwrap-first.result c.args.row c.col.result c.new.ensures.position
    c.unwrap-first.ensures ∙ ap (λ (n : ℕ). record { row = c.args.row; col = n }) col in
    let said = ap₂ shown_value c.labels.ensures.labels (c.value_at.ensures ∙ ap (value_of c.args.sheet.now) cell) in
    let sent = subst (λ t. HandsOut g.F.FnMut c.args.to.now t true c.send_value.new.to) said c.in_ok-send_value.ensures.sent in (
      c.in_ok-send_value.ensures.callable,
      subst (λ n. Completes g.F.FnMut c.args.to.now (row_text shown c.args.range c.args.row) c.send_value.new.to
          (row_rest shown c.args.range c.args.row (n + 1))) (sym again)
          (subst (λ t. Completes g.F.FnMut c.args.to.now t c.send_value.new.to (row_rest shown c.args.range c.args.row
          (c.args.range.head.col + 1))) (sym (row_begins shown c.args.range c.args.row c.head.ensures.ordered.cols))
          (begun g.F.FnMut _ _ _ _ sent)),
    )

pub send_bytes-requires : goal.send_bytes-requires
send_bytes-requires g c = record { callable = c.loop-col.invariant.0 }

pub send_bytes-requires-2 : goal.send_bytes-requires-2
send_bytes-requires-2 g c = record { callable = c.loop-col.invariant.0 }

pub returns-in_err-send_bytes-clause-sent : goal.returns-in_err-send_bytes-clause-sent
returns-in_err-send_bytes-clause-sent g c =
    stopped g.F.FnMut _ _ _ _ c.from_residual-in_err-send_bytes.ensures.0 (
    let shown = shown_cell c.args.sheet.now in
    let last : c.col-col-end.result ≡ c.args.range.tail.col = c.col-col-end.ensures.col ∙ ap (λ (cell : Position). cell.col) c.tail.ensures.tail in
    let within : c.loop-col.col ≤ c.args.range.tail.col = omega (arith, c.loop-col-test.true, last) in
    let goes = row_goes_on shown c.args.range c.args.row c.loop-col.col within in
    ended g.F.FnMut _ _ _ _ (44
    ∷ []) _ (subst (Completes g.F.FnMut c.args.to.now (row_text shown c.args.range c.args.row) c.loop-col.to) goes
    c.loop-col.invariant.1) c.in_err-send_bytes.ensures.sent)

pub returns-in_err-send_value-2-clause-sent : goal.returns-in_err-send_value-2-clause-sent
returns-in_err-send_value-2-clause-sent g c =
    stopped g.F.FnMut _ _ _ _ c.from_residual-in_err-send_value-2.ensures.0 (
    let shown = shown_cell c.args.sheet.now in
    let last : c.col-col-end.result ≡ c.args.range.tail.col = c.col-col-end.ensures.col ∙ ap (λ (cell : Position). cell.col) c.tail.ensures.tail in
    let within : c.loop-col.col ≤ c.args.range.tail.col = omega (arith, c.loop-col-test.true, last) in
    let goes = row_goes_on shown c.args.range c.args.row c.loop-col.col within in
    let cell = cell_made c.new-in-loop-col.result c.unwrap-cell.result c.args.row c.loop-col.col c.new-in-loop-col.ensures.position c.unwrap-cell.ensures in
    let said = ap₂ shown_value c.labels-in-loop-col.ensures.labels (c.value_at-in-loop-col.ensures ∙ ap (value_of c.args.sheet.now) cell) in
    ended g.F.FnMut _ _ _ _ _ _ (next g.F.FnMut _ _ _ _ (44
    ∷ []) _ (subst (Completes g.F.FnMut c.args.to.now (row_text shown c.args.range c.args.row) c.loop-col.to) goes
    c.loop-col.invariant.1) c.in_ok-send_bytes.ensures.sent)
    (subst (λ t. HandsOut g.F.FnMut c.send_bytes.new.to t false c.send_value-in-loop-col.new.to) said c.in_err-send_value-2.ensures.sent))

pub loop-col-preserved : goal.loop-col-preserved
loop-col-preserved g c =
    let shown = shown_cell c.args.sheet.now in
    let last : c.col-col-end.result ≡ c.args.range.tail.col = c.col-col-end.ensures.col ∙ ap (λ (cell : Position). cell.col) c.tail.ensures.tail in
    let within : c.loop-col.col ≤ c.args.range.tail.col = omega (arith, c.loop-col-test.true, last) in
    let goes = row_goes_on shown c.args.range c.args.row c.loop-col.col within in
    let cell = cell_made c.new-in-loop-col.result c.unwrap-cell.result c.args.row c.loop-col.col c.new-in-loop-col.ensures.position c.unwrap-cell.ensures in
    let said = ap₂ shown_value c.labels-in-loop-col.ensures.labels (c.value_at-in-loop-col.ensures ∙ ap (value_of c.args.sheet.now) cell) in (
      c.in_ok-send_value-2.ensures.callable,
      next g.F.FnMut _ _ _ _ _ _ (next g.F.FnMut _ _ _ _ (44
          ∷ []) _ (subst (Completes g.F.FnMut c.args.to.now (row_text shown c.args.range c.args.row) c.loop-col.to) goes
          c.loop-col.invariant.1) c.in_ok-send_bytes.ensures.sent)
          (subst (λ t. HandsOut g.F.FnMut c.send_bytes.new.to t true c.send_value-in-loop-col.new.to) said c.in_ok-send_value-2.ensures.sent),
    )

pub returns-clause-sent : goal.returns-clause-sent
returns-clause-sent g c =
    let shown = shown_cell c.args.sheet.now in
    let last : c.col-col-end.result ≡ c.args.range.tail.col = c.col-col-end.ensures.col ∙ ap (λ (cell : Position). cell.col) c.tail.ensures.tail in
    let past : c.args.range.tail.col < c.loop-col.col = omega (arith, c.loop-col-test.false, last) in
    subst (Completes g.F.FnMut c.args.to.now (row_text shown c.args.range c.args.row) c.loop-col.to)
    (row_ends shown c.args.range c.args.row c.loop-col.col past) c.loop-col.invariant.1 _ _ c.send_bytes-2.ensures.sent
