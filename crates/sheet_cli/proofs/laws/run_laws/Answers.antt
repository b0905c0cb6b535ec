use Rattle.sheet_cli.proofs.OneAnswer.{one_answer}
use Rattle.sheet_cli.proofs.WordLemmas.{one_request}
use Rattle.sheet_cli.proofs.laws.run_laws.Goals as goal

pub returns : goal.returns
returns c = record { request = one_request; answer = one_answer }
