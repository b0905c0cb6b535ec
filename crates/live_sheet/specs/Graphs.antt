-- The pairs of the graph under a live sheet's book.
use Rattle.std.specs.Prelude.{List}
use Rattle.graph_walk.specs.Graphs.{Pair}
use Rattle.taco_graph.specs.Pairs.{pairs_of}
use Rattle.taco_graph.specs.Taco.{TacoValue}

abbrev pub live_pairs : TacoValue → List Pair
live_pairs graph = pairs_of graph.edges
