use Rattle.sheet_cli.proofs.LawLemmas.{line_front, line_whole}
use Rattle.sheet_cli.proofs.laws.note_laws.Goals as goal

pub returns : goal.returns
returns c = record { front = line_front; whole = line_whole }
