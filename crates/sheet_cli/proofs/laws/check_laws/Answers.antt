use Rattle.sheet_cli.proofs.CheckLemmas.{listed_joined}
use Rattle.sheet_cli.proofs.laws.check_laws.Goals as goal

pub returns : goal.returns
returns c = record { joined = listed_joined }
