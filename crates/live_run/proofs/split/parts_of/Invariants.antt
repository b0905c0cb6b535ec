use Rattle.live_run.specs.Parts.{ArePartsOf}
use Rattle.live_run.proofs.split.parts_of.Given as goal

abbrev pub invariant-loop-client : goal.invariant-loop-client
invariant-loop-client l = ArePartsOf l.client l.steps l.parts.items
