use Rattle.sheet_model.proofs.ContentLemmas.{one_content, refused_none}
use Rattle.sheet_model.proofs.cell_laws.field_laws.Goals as goal

pub returns : goal.returns
returns c = record { one = one_content; refused = refused_none }
