use Rattle.text_pieces.proofs.PieceLemmas.{Completes}
use Rattle.sheet_cli.specs.Graphs.{cells_text}
use Rattle.sheet_cli.proofs.OutputLemmas.{cells_rest}
use Rattle.sheet_cli.proofs.cells.send_cells.Given as goal

abbrev pub invariant-loop-cell : goal.invariant-loop-cell
invariant-loop-cell g l =
    goal.F-IsAlwaysCallable g l.to × Completes g.F.FnMut l.fn.to (cells_text l.cells) l.to (cells_rest l.cells l.cell-index)
