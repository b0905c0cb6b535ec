use Rattle.live_run.proofs.CoverLemmas.{covers_own}
use Rattle.live_run.proofs.laws.legal_laws.Goals as goal

pub returns : goal.returns
returns c = covers_own
