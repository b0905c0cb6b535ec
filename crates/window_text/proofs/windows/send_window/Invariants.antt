use Rattle.window_text.specs.Texts.{sheet_window, shown_cell}
use Rattle.text_pieces.proofs.PieceLemmas.{Completes}
use Rattle.window_text.proofs.RowLemmas.{rows_rest}
use Rattle.window_text.proofs.windows.send_window.Given as goal

abbrev pub invariant-loop-row : goal.invariant-loop-row
invariant-loop-row g l =
    goal.F-IsAlwaysCallable g l.to
    × Completes g.F.FnMut l.fn.to (sheet_window l.sheet l.fn.range) l.to (rows_rest (shown_cell l.sheet) l.fn.range l.row)
