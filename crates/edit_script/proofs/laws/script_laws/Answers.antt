use Rattle.edit_script.proofs.OneResult.{one_result}
use Rattle.edit_script.proofs.laws.script_laws.Goals as goal

pub returns : goal.returns
returns c = one_result
