use Rattle.taco_graph.specs.Answers.{IsMeant}
use Rattle.taco_graph.proofs.LawLemmas.{answers_few, edges_few, one_gives}
use Rattle.taco_graph.proofs.laws.taco_laws.Goals as goal

pub returns : goal.returns
returns c = record {
  few = λ edges question query. answers_few edges (λ edge. IsMeant question edge query);
  one = λ edge question query. one_gives edge (λ e. IsMeant question e query);
  edges_are_few = edges_few;
}
