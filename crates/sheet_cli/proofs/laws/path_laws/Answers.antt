use Rattle.sheet_cli.proofs.PathLemmas.{none_no_chain, shown_shortest}
use Rattle.sheet_cli.proofs.laws.path_laws.Goals as goal

pub returns : goal.returns
returns c = record { none = none_no_chain; shortest = shown_shortest }
