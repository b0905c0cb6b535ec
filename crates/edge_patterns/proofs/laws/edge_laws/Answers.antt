use Rattle.edge_patterns.proofs.UnionLemmas.{one_range, run_has_ranges}
use Rattle.edge_patterns.proofs.LawLemmas.{pairs_tell, unions_one}
use Rattle.edge_patterns.proofs.RectangleLemmas.{pair_ordered, rectangle_has, run_asked, single_pair}
use Rattle.edge_patterns.proofs.NeighbourLemmas.{chain_refers, refers_chain}
use Rattle.edge_patterns.proofs.WithinLemmas.{joins_within}
use Rattle.edge_patterns.proofs.laws.edge_laws.Goals as goal

pub returns : goal.returns
returns c = record {
  cells_have_one_range = λ edge range other cell is. one_range edge range other cell;
  runs_have_ranges = λ edge cell is. run_has_ranges edge is cell;
  singles_have_one_pair = single_pair;
  ranges_are_ordered = λ edge range cell is. pair_ordered edge is range cell;
  rectangles_have_the_ranges = λ edge cell is. rectangle_has edge is cell;
  runs_are_asked = λ edge query is. run_asked edge is query;
  chains_refer_to_neighbours = λ edge is several. (λ chain. chain_refers edge is chain, λ near. refers_chain edge is several near);
  pairs_tell_the_edge = pairs_tell;
  unions_are_one = unions_one;
  parts_can_be_joined = joins_within;
}
