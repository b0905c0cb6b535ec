use Rattle.sheet_cli.proofs.FillingLemmas.{text_is_edit}
use Rattle.sheet_cli.proofs.laws.filled_laws.Goals as goal

pub returns : goal.returns
returns c = record { script = text_is_edit }
