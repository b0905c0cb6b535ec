use Rattle.taco_graph.proofs.OrderLemmas.{by_parts, distinct_edges, one_list}
use Rattle.taco_graph.proofs.laws.order_laws.Goals as goal

pub returns : goal.returns
returns c = record { by_parts = by_parts; distinct = distinct_edges; one_list = one_list }
