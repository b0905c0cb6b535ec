use Rattle.live_run.proofs.PartLemmas.{report_more}
use Rattle.live_run.proofs.split.reports_for.Goals as goal

pub loop-place-preserved : goal.loop-place-preserved
loop-place-preserved c =
    report_more c.args.commands.now c.loop-place.place c.index-commands-place.result c.loop-place.reports.items c.add_report.new.reports.items
    c.loop-place-test.true c.index-commands-place.is c.loop-place.invariant c.in_ok-add_report.ensures
