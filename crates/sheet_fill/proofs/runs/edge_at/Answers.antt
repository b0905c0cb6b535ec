use Rattle.std.proofs.Common.{arith}
use Rattle.sheet_fill.proofs.RunLemmas.{run_count}
use Rattle.sheet_fill.proofs.runs.edge_at.Goals as goal

pub cell_at-cell-requires : goal.cell_at-cell-requires
cell_at-cell-requires c = let count = run_count c.args.run.now c.requires.line in omega (arith, count, c.from.ensures, c.requires.within)
