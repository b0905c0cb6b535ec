use Rattle.taco_graph.specs.Pairs.{pairs_of}
use Rattle.sheet_cli.specs.Graphs.{AreDependents}
use Rattle.sheet_cli.proofs.GraphLemmas.{if_listed}
use Rattle.sheet_cli.proofs.window.dependents_of.Goals as goal

pub returns : goal.returns
returns c =
    if_listed (λ v. v.items) c.columns-2.result c.in_ok-dependents.field-0 (AreDependents c.args.sheet.now c.args.range)
    c.columns-2.ensures.listed c.columns-2.ensures.runs
    (λ maximal. record {
      pairs = pairs_of c.in_ok-graph.graph.edges;
      of_sheet = c.in_ok-graph.ensures;
      reached = c.in_ok-dependents.ensures;
      maximal = maximal;
    })
