use Rattle.sheet_cli.proofs.GeneratedLemmas.{gen_not_refused, tells_gen}
use Rattle.sheet_cli.proofs.OneAnswer.{summed_text}
use Rattle.sheet_cli.proofs.laws.generated_laws.Goals as goal

pub returns : goal.returns
returns c = record { told = tells_gen; not_refused = gen_not_refused; one_text = summed_text }
