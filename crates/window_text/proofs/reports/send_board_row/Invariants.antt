use Rattle.window_text.specs.Reports.{board_text}
use Rattle.window_text.specs.Texts.{row_text}
use Rattle.text_pieces.proofs.PieceLemmas.{Completes}
use Rattle.window_text.proofs.RowLemmas.{row_rest}
use Rattle.window_text.proofs.reports.send_board_row.Given as goal

abbrev pub invariant-loop-col : goal.invariant-loop-col
invariant-loop-col g l =
    goal.F-IsAlwaysCallable g l.to
    × Completes g.F.FnMut l.fn.to (row_text (board_text l.labels l.board) l.board.window l.row) l.to
    (row_rest (board_text l.labels l.board) l.board.window l.row l.col)
