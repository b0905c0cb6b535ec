-- What a turn does with jobs.
use Rattle.sheet_refs.specs.declared.sizes.Sizes.{Sizes}
use Rattle.recalc_workers.specs.declared.hands.Hand.{Hand}
use Rattle.recalc_workers.specs.declared.turns.Turn.{Turn}
use Rattle.recalc_workers.specs.declared.turns.Turn.TheVariants.{Done, Idle, Nothing, Later, Stale, Busy, Memory}
use Rattle.recalc_workers.specs.Again.{HasTakenOne, HasUsedJobs}

-- an answer about the cell of a job isn't that there was none
pub used_one : (sizes : Sizes) (old new : Hand) (turn : Turn) → HasTakenOne sizes old new turn → HasUsedJobs sizes old new turn
used_one sizes old new (Done cell) one = one
used_one sizes old new Idle one = absurd one.about
used_one sizes old new (Nothing cell) one = one
used_one sizes old new (Later cell mark met) one = one
used_one sizes old new (Stale cell input met) one = one
used_one sizes old new (Busy cell seen found) one = one
used_one sizes old new (Memory cell) one = one
