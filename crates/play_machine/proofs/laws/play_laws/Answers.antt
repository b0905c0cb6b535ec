use Rattle.play_machine.proofs.OnePlay.{one_list}
use Rattle.play_machine.proofs.laws.play_laws.Goals as goal

pub returns : goal.returns
returns c = one_list
