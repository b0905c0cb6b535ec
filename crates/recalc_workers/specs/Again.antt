-- What a turn does with jobs.
use Rattle.std.specs.Prelude.{◌≡◌, ◌<◌, ◌≤◌, ◌-◌, ◌⊎◌, Bool, true, false}
use Rattle.sheet_refs.specs.declared.sizes.Sizes.{Sizes}
use Rattle.recalc_workers.specs.declared.hands.Hand.{Hand}
use Rattle.recalc_workers.specs.declared.job.Job.{Job}
use Rattle.recalc_workers.specs.declared.turns.Turn.{Turn}
use Rattle.recalc_workers.specs.declared.turns.Turn.TheVariants.{Done, Idle, Nothing, Later, Stale, Busy, Memory}
use Rattle.recalc_workers.specs.Hands.{HasFoundNone, HasPut, HasRefused, HasSameLists, HasTaken}
use Rattle.recalc_workers.specs.Turns.{IsAbout}

-- whether the cell is to be tried again after the answer
abbrev pub comes_again : Turn → Bool
comes_again (Done cell) = false
comes_again Idle = false
comes_again (Nothing cell) = false
comes_again (Later cell mark met) = true
comes_again (Stale cell input met) = true
comes_again (Busy cell seen found) = true
comes_again (Memory cell) = true

-- the job with one try less
abbrev pub one_less : Job → Job
one_less job = record { cell = job.cell; tries = job.tries - 1 }

-- where the cell is to be tried again and the job has more than one try, it was offered once with one try less, and put
-- or refused; else nothing was offered
pub record IsOfferedAgain (sizes : Sizes) (old new : Hand) (job : Job) (turn : Turn) : Type 0 where
  pub again : comes_again turn ≡ true → 1 < job.tries → HasPut old new (one_less job) ⊎ HasRefused sizes old new (one_less job)
  pub done : comes_again turn ≡ false → HasSameLists old new
  pub last : job.tries ≤ 1 → HasSameLists old new

-- one job was taken, the answer is about its cell, and then it was offered again where it is to be
pub record HasTakenOne (sizes : Sizes) (old new : Hand) (turn : Turn) : Type 0 where
  pub job : Job
  pub mid : Hand
  pub taken : HasTaken sizes old mid job
  pub about : IsAbout job.cell turn
  pub offered : IsOfferedAgain sizes mid new job turn

-- no job was there where the turn is idle, and else one was taken
abbrev pub HasUsedJobs : Sizes → Hand → Hand → Turn → Type 0
HasUsedJobs sizes old new (Done cell) = HasTakenOne sizes old new (Done cell)
HasUsedJobs sizes old new Idle = HasFoundNone sizes old new
HasUsedJobs sizes old new (Nothing cell) = HasTakenOne sizes old new (Nothing cell)
HasUsedJobs sizes old new (Later cell mark met) = HasTakenOne sizes old new (Later cell mark met)
HasUsedJobs sizes old new (Stale cell input met) = HasTakenOne sizes old new (Stale cell input met)
HasUsedJobs sizes old new (Busy cell seen found) = HasTakenOne sizes old new (Busy cell seen found)
HasUsedJobs sizes old new (Memory cell) = HasTakenOne sizes old new (Memory cell)
