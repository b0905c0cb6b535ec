use Rattle.std.proofs.Common.{◌≡◌, ◌≤◌, ◌<◌, true, false, [], ◌∷◌, ap, sym, ◌∙◌, subst, arith}
use Rattle.sheet_refs.specs.Cells.{Position, Corners}
use Rattle.sheet_refs.specs.Names.{range_text}
use Rattle.text_pieces.specs.Pieces.{HandsOut}
use Rattle.window_text.specs.Reports.{board_text, window_text}
use Rattle.window_text.specs.Texts.{rows_text}
use Rattle.text_pieces.proofs.PieceLemmas.{Completes, none, begun, next, ended, and_then, cut}
use Rattle.window_text.proofs.RowLemmas.{rows_rest, rows_go_on, rows_end}
use Rattle.window_text.proofs.StopLemmas.{stopped}
use Rattle.window_text.proofs.reports.send_board.Goals as goal

pub returns-in_err-send_range_name-clause-sent : goal.returns-in_err-send_range_name-clause-sent
returns-in_err-send_range_name-clause-sent g c =
    stopped g.F.FnMut _ _ _ _ c.from_residual.ensures.0 (
    let sent = subst (λ w. HandsOut g.F.FnMut c.args.to.now (range_text w) false c.send_range_name.new.to)
    c.window-window.ensures c.in_err-send_range_name.ensures.sent in
    cut g.F.FnMut _ _ (range_text c.args.board.now.window) _ sent)

pub returns-in_err-send_bytes-clause-sent : goal.returns-in_err-send_bytes-clause-sent
returns-in_err-send_bytes-clause-sent g c =
    stopped g.F.FnMut _ _ _ _ c.from_residual-in_err-send_bytes.ensures.0 (
    let sent = subst (λ w. HandsOut g.F.FnMut c.args.to.now (range_text w) true c.send_range_name.new.to) c.window-window.ensures
    c.in_ok-send_range_name.ensures.sent in
    and_then g.F.FnMut _ _ _ (range_text c.args.board.now.window) _ _ sent (cut g.F.FnMut _ _ (10 ∷ []) _ c.in_err-send_bytes.ensures.sent))

pub loop-row-init : goal.loop-row-init
loop-row-init g c =
    let window = c.args.board.now.window in
    let shown = board_text c.args.labels.now c.args.board.now in
    let first : c.row-row.result ≡ window.head.row = c.row-row.ensures.row
    ∙ ap (λ (p : Position). p.row) c.head.ensures.head ∙ ap (λ (w : Corners). w.head.row) c.window-window.ensures in
    let sent = subst (λ w. HandsOut g.F.FnMut c.args.to.now (range_text w) true c.send_range_name.new.to) c.window-window.ensures
    c.in_ok-send_range_name.ensures.sent in
    let rows = rows_text shown window in (
      c.in_ok-send_bytes.ensures.callable,
      subst (λ n. Completes g.F.FnMut c.args.to.now (window_text c.args.labels.now c.args.board.now) c.send_bytes.new.to (rows_rest shown window n)) (sym first)
          (next g.F.FnMut _ _ _ _ (10 ∷ []) rows (begun g.F.FnMut _ _ (range_text window) (10 ∷ rows) sent) c.in_ok-send_bytes.ensures.sent),
    )

pub returns-in_err-send_board_row-clause-sent : goal.returns-in_err-send_board_row-clause-sent
returns-in_err-send_board_row-clause-sent g c =
    stopped g.F.FnMut _ _ _ _ c.from_residual-in_err-send_board_row.ensures.0 (
    let window = c.args.board.now.window in
    let shown = board_text c.args.labels.now c.args.board.now in
    let last : c.row-row-end.result ≡ window.tail.row = c.row-row-end.ensures.row
    ∙ ap (λ (p : Position). p.row) c.tail.ensures.tail ∙ ap (λ (w : Corners). w.tail.row) c.window-window.ensures in
    let within : c.loop-row.row ≤ window.tail.row = omega (arith, c.loop-row-test.true, last) in
    ended g.F.FnMut _ _ _ _ _ _
    (subst (Completes g.F.FnMut c.args.to.now (window_text c.args.labels.now c.args.board.now) c.loop-row.to)
    (rows_go_on shown window c.loop-row.row within) c.loop-row.invariant.1)
    c.in_err-send_board_row.ensures.sent)

pub loop-row-preserved : goal.loop-row-preserved
loop-row-preserved g c =
    let window = c.args.board.now.window in
    let shown = board_text c.args.labels.now c.args.board.now in
    let last : c.row-row-end.result ≡ window.tail.row = c.row-row-end.ensures.row
    ∙ ap (λ (p : Position). p.row) c.tail.ensures.tail ∙ ap (λ (w : Corners). w.tail.row) c.window-window.ensures in
    let within : c.loop-row.row ≤ window.tail.row = omega (arith, c.loop-row-test.true, last) in (
      c.in_ok-send_board_row.ensures.callable,
      next g.F.FnMut _ _ _ _ _ _
          (subst (Completes g.F.FnMut c.args.to.now (window_text c.args.labels.now c.args.board.now) c.loop-row.to)
          (rows_go_on shown window c.loop-row.row within) c.loop-row.invariant.1)
          c.in_ok-send_board_row.ensures.sent,
    )

pub returns-clause-sent : goal.returns-clause-sent
returns-clause-sent g c =
    let window = c.args.board.now.window in
    let shown = board_text c.args.labels.now c.args.board.now in
    let last : c.row-row-end.result ≡ window.tail.row = c.row-row-end.ensures.row
    ∙ ap (λ (p : Position). p.row) c.tail.ensures.tail ∙ ap (λ (w : Corners). w.tail.row) c.window-window.ensures in
    let past : window.tail.row < c.loop-row.row = omega (arith, c.loop-row-test.false, last) in
    c.loop-row.invariant.1 _ true (subst (λ t. HandsOut g.F.FnMut c.loop-row.to t true c.loop-row.to)
    (sym (rows_end shown window c.loop-row.row past)) (none g.F.FnMut c.loop-row.to))
