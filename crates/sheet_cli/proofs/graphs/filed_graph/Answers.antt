use Rattle.std.proofs.Common.{sym, subst}
use Rattle.edit_log.specs.Pairs.{ArePairsOf}
use Rattle.taco_graph.specs.Pairs.{pairs_of}
use Rattle.sheet_cli.proofs.graphs.filed_graph.Goals as goal

pub returns : goal.returns
returns c = subst (λ edges. ArePairsOf c.args.sheet.now (pairs_of edges)) (sym c.file_rectangles.ensures) c.in_ok-graph.ensures
