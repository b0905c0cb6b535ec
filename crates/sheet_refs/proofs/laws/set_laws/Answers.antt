use Rattle.sheet_refs.proofs.VerticalRuns.{one_list}
use Rattle.sheet_refs.proofs.laws.set_laws.Goals as goal

pub returns : goal.returns
returns c = record { one_list = one_list }
