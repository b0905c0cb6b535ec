use Rattle.std.proofs.Common.{refl}
use Rattle.sheet_model.proofs.BoardLemmas.{codes_show, worths_show}
use Rattle.sheet_model.proofs.cell_laws.board_laws.Goals as goal

pub returns : goal.returns
returns c = record { codes = codes_show; worths = worths_show; stale = λ number. refl; newer = λ number. refl }
