use Rattle.mark_words.specs.Tokens.{subject_of, log_of}
use Rattle.sheet_model.specs.Logs.{after}
use Rattle.live_sheet.proofs.FirmLemmas.{WindowSoFar}
use Rattle.live_sheet.proofs.firm_cells.show_window.Given as goal

abbrev pub invariant-loop-place : goal.invariant-loop-place
invariant-loop-place g l =
    WindowSoFar l.marks (after (g.S.SheetSubject.opening (subject_of l.marks)) (log_of l.fn.editor)) l.number l.window
    l.fn.board.room l.fn.editor l.editor l.board l._place l.cell
