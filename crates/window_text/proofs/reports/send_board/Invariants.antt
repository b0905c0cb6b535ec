use Rattle.window_text.specs.Reports.{board_text, window_text}
use Rattle.text_pieces.proofs.PieceLemmas.{Completes}
use Rattle.window_text.proofs.RowLemmas.{rows_rest}
use Rattle.window_text.proofs.reports.send_board.Given as goal

abbrev pub invariant-loop-row : goal.invariant-loop-row
invariant-loop-row g l =
    goal.F-IsAlwaysCallable g l.to
    × Completes g.F.FnMut l.fn.to (window_text l.labels l.board) l.to (rows_rest (board_text l.labels l.board) l.board.window l.row)
