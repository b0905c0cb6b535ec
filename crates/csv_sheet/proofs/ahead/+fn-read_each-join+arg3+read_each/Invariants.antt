use Rattle.csv_sheet.proofs.ahead.+fn-read_each-join+arg3+read_each.Given as goal

abbrev pub decreases-join+arg3 : goal.decreases-join+arg3
decreases-join+arg3 g l = l.left

abbrev pub decreases-read_each : goal.decreases-read_each
decreases-read_each g l = l.threads
