use Rattle.std.proofs.Common.{◌≡◌, length, List}
use Rattle.edge_patterns.specs.Edges.{EdgeValue}
use Rattle.taco_graph.specs.Pairs.{pairs_of}
use Rattle.window_text.specs.Texts.{check_text}
use Rattle.sheet_cli.specs.Graphs.{ListsEdges}
use Rattle.sheet_cli.proofs.GraphLemmas.{if_ok}
use Rattle.sheet_cli.proofs.check.check_output.Goals as goal

pub returns : goal.returns
returns c =
    let edges : List EdgeValue = c.in_ok-edges.field-0.items in
    let listed = c.in_ok-edges.ensures in
    if_ok (λ text. text ≡ check_text (length (pairs_of edges)) edges) (λ text. ListsEdges c.args.sheet.now text) c.of_edges.result
    (λ text is. record {
      pairs = pairs_of c.in_ok-graph.graph.edges;
      of_sheet = c.in_ok-graph.ensures;
      edges = edges;
      stand = listed.listed_stand;
      joined = listed.listed_joined;
      order = listed.order;
      text_is = is;
    })
    c.of_edges.ensures
