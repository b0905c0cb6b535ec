use Rattle.sheet_refs.proofs.SpanLemmas.{went_well}
use Rattle.sheet_refs.proofs.column.fill.Goals as goal

pub returns-clause-joined : goal.returns-clause-joined
returns-clause-joined c = went_well _ _ _ c.join.ensures.joined c.join.ensures.room c.requires.room
