use Rattle.edit_script.proofs.TableLemmas.{table_grows}
use Rattle.edit_script.proofs.progress.Progress.set.Goals as goal

pub returns-clause-grown : goal.returns-clause-grown
returns-clause-grown c = table_grows c.args.text.now c.args.sheet.now.labels c.content_of.new.sheet.labels c.in_ok-content.ensures.table
