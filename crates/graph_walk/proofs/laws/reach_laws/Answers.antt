use Rattle.std.proofs.Common.{IsTrue}
use Rattle.sheet_refs.specs.Cells.{IsIn}
use Rattle.graph_walk.specs.Graphs.{Step}
use Rattle.graph_walk.proofs.PathLemmas.{reached_step, reached_within}
use Rattle.graph_walk.proofs.laws.reach_laws.Goals as goal

pub returns-clause-steps : goal.returns-clause-steps
returns-clause-steps c = λ pairs range from to one reached. reached_step (Step pairs) (λ cell. IsIn cell range) from to reached one

pub returns-clause-least : goal.returns-clause-least
returns-clause-least c = λ pairs range set has closed cell reached. reached_within (Step pairs) (λ a. IsIn a range)
    (λ a. IsTrue (set a)) has closed cell reached
