use Rattle.csv_sheet.proofs.reader.+count_parts+fn-count_parts-join+arg3.Given as goal

abbrev pub decreases-count_parts : goal.decreases-count_parts
decreases-count_parts g l = l.threads

abbrev pub decreases-join+arg3 : goal.decreases-join+arg3
decreases-join+arg3 g l = l.left
