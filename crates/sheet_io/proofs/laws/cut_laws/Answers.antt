use Rattle.sheet_io.proofs.CutLemmas.{uncut, first}
use Rattle.sheet_io.proofs.laws.cut_laws.Goals as goal

pub returns-clause-uncut : goal.returns-clause-uncut
returns-clause-uncut c = uncut

pub returns-clause-first : goal.returns-clause-first
returns-clause-first c = first
