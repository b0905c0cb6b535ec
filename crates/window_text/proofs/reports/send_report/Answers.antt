use Rattle.std.proofs.Common.{true, false, [], ◌∷◌, subst}
use Rattle.std.specs.Fmt.{decimal}
use Rattle.text_pieces.specs.Pieces.{HandsOut}
use Rattle.window_text.specs.Reports.{report_kind}
use Rattle.text_pieces.proofs.PieceLemmas.{and_then, cut}
use Rattle.window_text.proofs.StopLemmas.{stopped}
use Rattle.window_text.proofs.reports.send_report.Goals as goal

pub returns-in_err-send_kind-clause-sent : goal.returns-in_err-send_kind-clause-sent
returns-in_err-send_kind-clause-sent g c =
    stopped g.F.FnMut _ _ _ _ c.from_residual.ensures.0 (
    cut g.F.FnMut _ _ (report_kind c.args.report.now.firm) _ c.in_err-send_kind.ensures.sent)

pub returns-in_err-send_decimal-clause-sent : goal.returns-in_err-send_decimal-clause-sent
returns-in_err-send_decimal-clause-sent g c =
    stopped g.F.FnMut _ _ _ _ c.from_residual-in_err-send_decimal.ensures.0 (
    let sent = subst (λ n. HandsOut g.F.FnMut c.send_kind.new.to (decimal n) false c.send_decimal.new.to) c.number.ensures c.in_err-send_decimal.ensures.sent in
    and_then g.F.FnMut _ _ _ (report_kind c.args.report.now.firm) _ _ c.in_ok-send_kind.ensures.sent
    (cut g.F.FnMut _ _ (decimal c.args.report.now.board.number) _ sent))

pub returns-in_err-send_bytes-clause-sent : goal.returns-in_err-send_bytes-clause-sent
returns-in_err-send_bytes-clause-sent g c =
    stopped g.F.FnMut _ _ _ _ c.from_residual-in_err-send_bytes.ensures.0 (
    let sent = subst (λ n. HandsOut g.F.FnMut c.send_kind.new.to (decimal n) true c.send_decimal.new.to) c.number.ensures c.in_ok-send_decimal.ensures.sent in
    and_then g.F.FnMut _ _ _ (report_kind c.args.report.now.firm) _ _ c.in_ok-send_kind.ensures.sent
    (and_then g.F.FnMut _ _ _ (decimal c.args.report.now.board.number) _ _ sent (cut g.F.FnMut _ _ (32 ∷ []) _ c.in_err-send_bytes.ensures.sent)))

pub returns-clause-sent : goal.returns-clause-sent
returns-clause-sent g c =
    let sent = subst (λ n. HandsOut g.F.FnMut c.send_kind.new.to (decimal n) true c.send_decimal.new.to) c.number.ensures c.in_ok-send_decimal.ensures.sent in
    and_then g.F.FnMut _ _ _ (report_kind c.args.report.now.firm) _ _ c.in_ok-send_kind.ensures.sent
    (and_then g.F.FnMut _ _ _ (decimal c.args.report.now.board.number) _ _ sent
    (and_then g.F.FnMut _ _ _ (32 ∷ []) _ _ c.in_ok-send_bytes.ensures.sent c.send_board.ensures.sent))
