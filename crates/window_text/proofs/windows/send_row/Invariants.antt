use Rattle.window_text.specs.Texts.{row_text, shown_cell}
use Rattle.text_pieces.proofs.PieceLemmas.{Completes}
use Rattle.window_text.proofs.RowLemmas.{row_rest}
use Rattle.window_text.proofs.windows.send_row.Given as goal

abbrev pub invariant-loop-col : goal.invariant-loop-col
invariant-loop-col g l =
    goal.F-IsAlwaysCallable g l.to
    × Completes g.F.FnMut l.fn.to (row_text (shown_cell l.sheet) l.fn.range l.row) l.to (row_rest (shown_cell l.sheet) l.fn.range l.row l.col)
