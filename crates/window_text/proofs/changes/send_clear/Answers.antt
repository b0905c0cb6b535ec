use Rattle.std.proofs.Common.{[], ◌∷◌, ◌++◌}
use Rattle.std.specs.Prelude.{codes}
use Rattle.sheet_refs.specs.Names.{cell_text}
use Rattle.text_pieces.proofs.PieceLemmas.{and_then, cut}
use Rattle.window_text.proofs.StopLemmas.{stopped}
use Rattle.window_text.proofs.changes.send_clear.Goals as goal

pub returns-in_err-send_bytes-clause-sent : goal.returns-in_err-send_bytes-clause-sent
returns-in_err-send_bytes-clause-sent g c =
    stopped g.F.FnMut _ _ _ _ c.from_residual.ensures.0 (
    cut g.F.FnMut _ _ (codes "clear ") (cell_text c.args.cell ++ 10 ∷ []) c.in_err-send_bytes.ensures.sent)

pub returns-in_err-send_cell_name-clause-sent : goal.returns-in_err-send_cell_name-clause-sent
returns-in_err-send_cell_name-clause-sent g c =
    stopped g.F.FnMut _ _ _ _ c.from_residual-in_err-send_cell_name.ensures.0 (
    and_then g.F.FnMut _ _ _ (codes "clear ") _ _ c.in_ok-send_bytes.ensures.sent (cut g.F.FnMut _ _ (cell_text c.args.cell)
    (10 ∷ []) c.in_err-send_cell_name.ensures.sent))

pub returns-clause-sent : goal.returns-clause-sent
returns-clause-sent g c =
    and_then g.F.FnMut _ _ _ (codes "clear ") _ _ c.in_ok-send_bytes.ensures.sent
    (and_then g.F.FnMut _ _ _ (cell_text c.args.cell) _ _ c.in_ok-send_cell_name.ensures.sent c.send_bytes-2.ensures.sent)
