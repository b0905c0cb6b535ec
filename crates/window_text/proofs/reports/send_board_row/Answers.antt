use Rattle.std.proofs.Common.{◌≡◌, ◌≤◌, ◌<◌, ◌+◌, true, false, ℕ, [], ◌∷◌, ap, sym, ◌∙◌, subst, arith}
use Rattle.sheet_refs.specs.Cells.{Position, Corners, IsOrdered}
use Rattle.text_pieces.specs.Pieces.{HandsOut}
use Rattle.window_text.specs.Reports.{board_text, shown_text}
use Rattle.window_text.specs.Texts.{row_text}
use Rattle.text_pieces.proofs.PieceLemmas.{Completes, begun, next, ended, cut}
use Rattle.window_text.proofs.RowLemmas.{row_rest, row_begins, row_goes_on, row_ends}
use Rattle.window_text.proofs.StopLemmas.{stopped}
use Rattle.window_text.proofs.reports.send_board_row.Goals as goal

pub returns-in_err-send_shown-clause-sent : goal.returns-in_err-send_shown-clause-sent
returns-in_err-send_shown-clause-sent g c =
    stopped g.F.FnMut _ _ _ _ c.from_residual.ensures.0 (
    let window = c.args.board.now.window in
    let shown = board_text c.args.labels.now c.args.board.now in
    let col : c.col.result ≡ window.head.col = c.col.ensures.col ∙ ap (λ (p : Position). p.col) c.head.ensures.head
    ∙ ap (λ (w : Corners). w.head.col) c.window-window.ensures in
    let ordered = subst (λ (w : Corners). IsOrdered w.head w.tail) c.window-window.ensures c.head.ensures.ordered in
    let said = ap (shown_text c.args.labels.now) c.shown_at.ensures ∙ ap (λ (n : ℕ). shown (record { row = c.args.row; col = n })) col in
    subst (λ t. HandsOut g.F.FnMut c.args.to.now t false c.send_shown.new.to) (sym (row_begins shown window c.args.row ordered.cols))
    (cut g.F.FnMut _ _ _ _ (subst (λ t. HandsOut g.F.FnMut c.args.to.now t false c.send_shown.new.to) said c.in_err-send_shown.ensures.sent)))

pub loop-col-init : goal.loop-col-init
loop-col-init g c =
    let window = c.args.board.now.window in
    let shown = board_text c.args.labels.now c.args.board.now in
    let col : c.col.result ≡ window.head.col = c.col.ensures.col ∙ ap (λ (p : Position). p.col) c.head.ensures.head
    ∙ ap (λ (w : Corners). w.head.col) c.window-window.ensures in
    let again : c.col-col.result ≡ window.head.col = c.col-col.ensures.col
    ∙ ap (λ (p : Position). p.col) c.head-2.ensures.head ∙ ap (λ (w : Corners). w.head.col) c.window-window.ensures
    in
    let ordered = subst (λ (w : Corners). IsOrdered w.head w.tail) c.window-window.ensures c.head.ensures.ordered in
    let said = ap (shown_text c.args.labels.now) c.shown_at.ensures ∙ ap (λ (n : ℕ). shown (record { row = c.args.row; col = n })) col in
    let sent = subst (λ t. HandsOut g.F.FnMut c.args.to.now t true c.send_shown.new.to) said c.in_ok-send_shown.ensures.sent in (
      c.in_ok-send_shown.ensures.callable,
      subst (λ n. Completes g.F.FnMut c.args.to.now (row_text shown window c.args.row) c.send_shown.new.to
          (row_rest shown window c.args.row (n + 1))) (sym again)
          (subst (λ t. Completes g.F.FnMut c.args.to.now t c.send_shown.new.to
          (row_rest shown window c.args.row (window.head.col + 1)))
          (sym (row_begins shown window c.args.row ordered.cols))
          (begun g.F.FnMut _ _ _ _ sent)),
    )

pub send_bytes-requires : goal.send_bytes-requires
send_bytes-requires g c = record { callable = c.loop-col.invariant.0 }

pub send_bytes-requires-2 : goal.send_bytes-requires-2
send_bytes-requires-2 g c = record { callable = c.loop-col.invariant.0 }

pub returns-in_err-send_bytes-clause-sent : goal.returns-in_err-send_bytes-clause-sent
returns-in_err-send_bytes-clause-sent g c =
    stopped g.F.FnMut _ _ _ _ c.from_residual-in_err-send_bytes.ensures.0 (
    let window = c.args.board.now.window in
    let shown = board_text c.args.labels.now c.args.board.now in
    let last : c.col-col-end.result ≡ window.tail.col = c.col-col-end.ensures.col
    ∙ ap (λ (p : Position). p.col) c.tail.ensures.tail ∙ ap (λ (w : Corners). w.tail.col) c.window-window.ensures in
    let within : c.loop-col.col ≤ window.tail.col = omega (arith, c.loop-col-test.true, last) in
    let goes = row_goes_on shown window c.args.row c.loop-col.col within in
    ended g.F.FnMut _ _ _ _ (44
    ∷ []) _ (subst (Completes g.F.FnMut c.args.to.now (row_text shown window c.args.row) c.loop-col.to) goes
    c.loop-col.invariant.1) c.in_err-send_bytes.ensures.sent)

pub returns-in_err-send_shown-2-clause-sent : goal.returns-in_err-send_shown-2-clause-sent
returns-in_err-send_shown-2-clause-sent g c =
    stopped g.F.FnMut _ _ _ _ c.from_residual-in_err-send_shown-2.ensures.0 (
    let window = c.args.board.now.window in
    let shown = board_text c.args.labels.now c.args.board.now in
    let last : c.col-col-end.result ≡ window.tail.col = c.col-col-end.ensures.col
    ∙ ap (λ (p : Position). p.col) c.tail.ensures.tail ∙ ap (λ (w : Corners). w.tail.col) c.window-window.ensures in
    let within : c.loop-col.col ≤ window.tail.col = omega (arith, c.loop-col-test.true, last) in
    let goes = row_goes_on shown window c.args.row c.loop-col.col within in
    let said = ap (shown_text c.args.labels.now) c.shown_at-in-loop-col.ensures in
    ended g.F.FnMut _ _ _ _ _ _ (next g.F.FnMut _ _ _ _ (44
    ∷ []) _ (subst (Completes g.F.FnMut c.args.to.now (row_text shown window c.args.row) c.loop-col.to) goes
    c.loop-col.invariant.1) c.in_ok-send_bytes.ensures.sent)
    (subst (λ t. HandsOut g.F.FnMut c.send_bytes.new.to t false c.send_shown-in-loop-col.new.to) said c.in_err-send_shown-2.ensures.sent))

pub loop-col-preserved : goal.loop-col-preserved
loop-col-preserved g c =
    let window = c.args.board.now.window in
    let shown = board_text c.args.labels.now c.args.board.now in
    let last : c.col-col-end.result ≡ window.tail.col = c.col-col-end.ensures.col
    ∙ ap (λ (p : Position). p.col) c.tail.ensures.tail ∙ ap (λ (w : Corners). w.tail.col) c.window-window.ensures in
    let within : c.loop-col.col ≤ window.tail.col = omega (arith, c.loop-col-test.true, last) in
    let goes = row_goes_on shown window c.args.row c.loop-col.col within in
    let said = ap (shown_text c.args.labels.now) c.shown_at-in-loop-col.ensures in (
      c.in_ok-send_shown-2.ensures.callable,
      next g.F.FnMut _ _ _ _ _ _ (next g.F.FnMut _ _ _ _ (44
          ∷ []) _ (subst (Completes g.F.FnMut c.args.to.now (row_text shown window c.args.row) c.loop-col.to) goes
          c.loop-col.invariant.1) c.in_ok-send_bytes.ensures.sent)
          (subst (λ t. HandsOut g.F.FnMut c.send_bytes.new.to t true c.send_shown-in-loop-col.new.to) said c.in_ok-send_shown-2.ensures.sent),
    )

pub returns-clause-sent : goal.returns-clause-sent
returns-clause-sent g c =
    let window = c.args.board.now.window in
    let shown = board_text c.args.labels.now c.args.board.now in
    let last : c.col-col-end.result ≡ window.tail.col = c.col-col-end.ensures.col
    ∙ ap (λ (p : Position). p.col) c.tail.ensures.tail ∙ ap (λ (w : Corners). w.tail.col) c.window-window.ensures in
    let past : window.tail.col < c.loop-col.col = omega (arith, c.loop-col-test.false, last) in
    subst (Completes g.F.FnMut c.args.to.now (row_text shown window c.args.row) c.loop-col.to)
    (row_ends shown window c.args.row c.loop-col.col past) c.loop-col.invariant.1 _ _ c.send_bytes-2.ensures.sent
