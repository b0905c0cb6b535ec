use Rattle.window_text.proofs.ToldRuns.{run_told}
use Rattle.window_text.proofs.laws.text_laws.Goals as goal

pub returns : goal.returns
returns c = record { one_run = run_told }
