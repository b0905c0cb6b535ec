use Rattle.window_text.specs.Reports.{play_text}
use Rattle.text_pieces.proofs.PieceLemmas.{Completes}
use Rattle.window_text.proofs.ReportLemmas.{reports_rest}
use Rattle.window_text.proofs.reports.send_reports.Given as goal

abbrev pub invariant-loop-report : goal.invariant-loop-report
invariant-loop-report g l =
    goal.F-IsAlwaysCallable g l.to
    × Completes g.F.FnMut l.fn.to (play_text l.labels l.reports) l.to (reports_rest l.labels l.reports l.report-index)
