-- What a hand notes as refused by one step.
use Rattle.std.specs.Prelude.{List, [], ◌∷◌, map, drop}
use Rattle.sheet_refs.specs.Cells.{Position}
use Rattle.recalc_workers.specs.declared.job.Job.{Job}
use Rattle.recalc_workers.specs.declared.refused_jobs.RefusedJobs.{RefusedJobs}
use Rattle.recalc_workers.specs.declared.refused_jobs.RefusedJobs.TheVariants.{One, Rest}

-- a new job for a cell
abbrev pub new_job : Position → Job
new_job cell = record { cell = cell; tries = 16 }

-- the jobs that were refused by one step, in order
abbrev pub refused_together : RefusedJobs → List Job
refused_together (One job) = job ∷ []
refused_together (Rest cells from) = map new_job (drop from cells.items)
