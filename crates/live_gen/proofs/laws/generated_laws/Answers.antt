use Rattle.live_gen.proofs.FillLemmas.{one_sheet}
use Rattle.live_gen.proofs.RunLemmas.{comes_to_one}
use Rattle.live_gen.proofs.ScriptLemmas.{generated_apart}
use Rattle.live_gen.proofs.laws.generated_laws.Goals as goal

pub returns : goal.returns
returns c = record { one_sheet = one_sheet; apart = generated_apart; one_run = comes_to_one }
