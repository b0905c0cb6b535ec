use Rattle.std.proofs.Common.{IsTrue, ◌∷◌}
use Rattle.graph_walk.specs.Graphs.{Step}
use Rattle.graph_walk.proofs.PathLemmas.{back_within}
use Rattle.graph_walk.proofs.laws.back_laws.Goals as goal

pub returns-clause-steps : goal.returns-clause-steps
returns-clause-steps c = λ pairs range from to one reached. record {
  to = reached.to;
  ends = reached.ends;
  cells = to
      ∷ reached.cells;
  path = (one, reached.path);
}

pub returns-clause-least : goal.returns-clause-least
returns-clause-least c = λ pairs range set has closed cell reached. back_within (Step pairs) (λ a. IsTrue (set a))
    closed cell reached.to reached.cells (has reached.to reached.ends) reached.path
