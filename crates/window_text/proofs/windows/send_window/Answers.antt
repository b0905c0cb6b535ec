use Rattle.std.proofs.Common.{◌≡◌, ◌≤◌, ◌<◌, true, [], ◌∷◌, ap, sym, ◌∙◌, subst, arith}
use Rattle.sheet_refs.specs.Cells.{Position}
use Rattle.sheet_refs.specs.Names.{range_text}
use Rattle.text_pieces.specs.Pieces.{HandsOut}
use Rattle.window_text.specs.Texts.{sheet_window, rows_text, shown_cell}
use Rattle.text_pieces.proofs.PieceLemmas.{Completes, none, begun, next, ended, and_then, cut}
use Rattle.window_text.proofs.RowLemmas.{rows_rest, rows_go_on, rows_end}
use Rattle.window_text.proofs.StopLemmas.{stopped}
use Rattle.window_text.proofs.windows.send_window.Goals as goal

pub returns-in_err-send_range_name-clause-sent : goal.returns-in_err-send_range_name-clause-sent
returns-in_err-send_range_name-clause-sent g c =
    stopped g.F.FnMut _ _ _ _ c.from_residual.ensures.0 (
    cut g.F.FnMut _ _ (range_text c.args.range) _ c.in_err-send_range_name.ensures.sent)

pub returns-in_err-send_bytes-clause-sent : goal.returns-in_err-send_bytes-clause-sent
returns-in_err-send_bytes-clause-sent g c =
    stopped g.F.FnMut _ _ _ _ c.from_residual-in_err-send_bytes.ensures.0 (
    and_then g.F.FnMut _ _ _ (range_text c.args.range) _ _ c.in_ok-send_range_name.ensures.sent
    (cut g.F.FnMut _ _ (10 ∷ []) _ c.in_err-send_bytes.ensures.sent))

pub loop-row-init : goal.loop-row-init
loop-row-init g c =
    let shown = shown_cell c.args.sheet.now in
    let first : c.row-row.result ≡ c.args.range.head.row = c.row-row.ensures.row ∙ ap (λ (cell : Position). cell.row) c.head.ensures.head in
    let rows = rows_text shown c.args.range in (
      c.in_ok-send_bytes.ensures.callable,
      subst (λ n. Completes g.F.FnMut c.args.to.now (sheet_window c.args.sheet.now c.args.range) c.send_bytes.new.to (rows_rest shown c.args.range n))
          (sym first)
          (next g.F.FnMut _ _ _ _ (10 ∷ []) rows (begun g.F.FnMut _ _ (range_text c.args.range) (10
          ∷ rows) c.in_ok-send_range_name.ensures.sent) c.in_ok-send_bytes.ensures.sent),
    )

pub returns-in_err-send_row-clause-sent : goal.returns-in_err-send_row-clause-sent
returns-in_err-send_row-clause-sent g c =
    stopped g.F.FnMut _ _ _ _ c.from_residual-in_err-send_row.ensures.0 (
    let shown = shown_cell c.args.sheet.now in
    let last : c.row-row-end.result ≡ c.args.range.tail.row = c.row-row-end.ensures.row ∙ ap (λ (cell : Position). cell.row) c.tail.ensures.tail in
    let within : c.loop-row.row ≤ c.args.range.tail.row = omega (arith, c.loop-row-test.true, last) in
    ended g.F.FnMut _ _ _ _ _ _ (subst (Completes g.F.FnMut c.args.to.now (sheet_window c.args.sheet.now c.args.range)
    c.loop-row.to) (rows_go_on shown c.args.range c.loop-row.row within) c.loop-row.invariant.1)
    c.in_err-send_row.ensures.sent)

pub loop-row-preserved : goal.loop-row-preserved
loop-row-preserved g c =
    let shown = shown_cell c.args.sheet.now in
    let last : c.row-row-end.result ≡ c.args.range.tail.row = c.row-row-end.ensures.row ∙ ap (λ (cell : Position). cell.row) c.tail.ensures.tail in
    let within : c.loop-row.row ≤ c.args.range.tail.row = omega (arith, c.loop-row-test.true, last) in (
      c.in_ok-send_row.ensures.callable,
      next g.F.FnMut _ _ _ _ _ _ (subst (Completes g.F.FnMut c.args.to.now (sheet_window c.args.sheet.now c.args.range)
          c.loop-row.to) (rows_go_on shown c.args.range c.loop-row.row within) c.loop-row.invariant.1)
          c.in_ok-send_row.ensures.sent,
    )

pub returns-clause-sent : goal.returns-clause-sent
returns-clause-sent g c =
    let shown = shown_cell c.args.sheet.now in
    let last : c.row-row-end.result ≡ c.args.range.tail.row = c.row-row-end.ensures.row ∙ ap (λ (cell : Position). cell.row) c.tail.ensures.tail in
    let past : c.args.range.tail.row < c.loop-row.row = omega (arith, c.loop-row-test.false, last) in
    c.loop-row.invariant.1 _ true (subst (λ t. HandsOut g.F.FnMut c.loop-row.to t true c.loop-row.to)
    (sym (rows_end shown c.args.range c.loop-row.row past)) (none g.F.FnMut c.loop-row.to))
