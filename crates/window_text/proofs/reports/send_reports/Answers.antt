use Rattle.std.proofs.Common.{true, sym, subst}
use Rattle.text_pieces.specs.Pieces.{HandsOut}
use Rattle.text_pieces.proofs.PieceLemmas.{none, next, ended}
use Rattle.window_text.proofs.ReportLemmas.{next_report, reports_end}
use Rattle.window_text.proofs.StopLemmas.{stopped}
use Rattle.window_text.proofs.reports.send_reports.Goals as goal

pub loop-report-init : goal.loop-report-init
loop-report-init g c = (c.requires.callable, λ last told rest. rest)

pub returns-in_err-send_report-clause-sent : goal.returns-in_err-send_report-clause-sent
returns-in_err-send_report-clause-sent g c =
    stopped g.F.FnMut _ _ _ _ c.from_residual.ensures.0 (
    let rest = next_report g.F.FnMut _ _ c.args.labels.now c.args.reports.now c.loop-report.report-index
    c.report-item.result c.loop-report-test.true c.report-item.is c.loop-report.invariant.1 in
    ended g.F.FnMut _ _ _ _ _ _ rest c.in_err-send_report.ensures.sent)

pub loop-report-preserved : goal.loop-report-preserved
loop-report-preserved g c =
    let rest = next_report g.F.FnMut _ _ c.args.labels.now c.args.reports.now c.loop-report.report-index
    c.report-item.result c.loop-report-test.true c.report-item.is c.loop-report.invariant.1 in
    (c.in_ok-send_report.ensures.callable, next g.F.FnMut _ _ _ _ _ _ rest c.in_ok-send_report.ensures.sent)

pub returns-clause-sent : goal.returns-clause-sent
returns-clause-sent g c =
    c.loop-report.invariant.1 _ true (subst (λ t. HandsOut g.F.FnMut c.loop-report.to t true c.loop-report.to)
    (sym (reports_end c.args.labels.now c.args.reports.now c.loop-report.report-index c.loop-report-test.false))
    (none g.F.FnMut c.loop-report.to))
