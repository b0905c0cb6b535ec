use Rattle.csv_sheet.proofs.LoadLemmas.{exact_from}
use Rattle.csv_sheet.proofs.loading.load_in_threads.Goals as goal

pub returns-clause-exact : goal.returns-clause-exact
returns-clause-exact g c = λ other answer. exact_from c.args.text.now c.load_text.result (c.load_text.ensures other) answer
