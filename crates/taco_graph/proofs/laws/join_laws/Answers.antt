use Rattle.taco_graph.proofs.FilledLemmas.{filled_is_one, two_filled}
use Rattle.taco_graph.proofs.OneEdgeLemmas.{apart_of, one_alone}
use Rattle.taco_graph.proofs.laws.join_laws.Goals as goal

pub returns : goal.returns
returns c =
    record {
      alone = λ edges stand none edge is same. one_alone edges edge is stand.are_edges
          (apart_of edges stand.once) none same;
      filled = filled_is_one;
      example = two_filled;
    }
