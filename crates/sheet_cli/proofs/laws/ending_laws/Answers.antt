use Rattle.sheet_cli.proofs.InOrder.{accepted_not_refused}
use Rattle.sheet_cli.proofs.LawLemmas.{not_both, one_count, one_length, one_output, one_refusal, one_script_lives}
use Rattle.sheet_cli.proofs.laws.ending_laws.Goals as goal

pub returns-clause-output : goal.returns-clause-output
returns-clause-output c = one_output

pub returns-clause-checks : goal.returns-clause-checks
returns-clause-checks c = one_count

pub returns-clause-lives : goal.returns-clause-lives
returns-clause-lives c = one_script_lives

pub returns-clause-paths : goal.returns-clause-paths
returns-clause-paths c = one_length

pub returns-clause-refusal : goal.returns-clause-refusal
returns-clause-refusal c = one_refusal

pub returns-clause-apart : goal.returns-clause-apart
returns-clause-apart c = not_both

pub returns-clause-accepted : goal.returns-clause-accepted
returns-clause-accepted c = accepted_not_refused
