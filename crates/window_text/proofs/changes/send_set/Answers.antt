use Rattle.std.proofs.Common.{[], ◌∷◌, ◌++◌}
use Rattle.std.specs.Prelude.{codes}
use Rattle.sheet_refs.specs.Names.{cell_text}
use Rattle.sheet_model.specs.Sheets.{content_value}
use Rattle.text_pieces.proofs.PieceLemmas.{and_then, cut}
use Rattle.window_text.specs.Changes.{content_text}
use Rattle.window_text.proofs.StopLemmas.{stopped}
use Rattle.window_text.proofs.changes.send_set.Goals as goal

pub returns-in_err-send_bytes-clause-sent : goal.returns-in_err-send_bytes-clause-sent
returns-in_err-send_bytes-clause-sent g c =
    stopped g.F.FnMut _ _ _ _ c.from_residual.ensures.0 (
    let content = content_text c.args.labels.now (content_value c.args.content.now) in
    cut g.F.FnMut _ _ (codes "set ") (cell_text c.args.cell ++ 32 ∷ (content ++ 10 ∷ [])) c.in_err-send_bytes.ensures.sent)

pub returns-in_err-send_cell_name-clause-sent : goal.returns-in_err-send_cell_name-clause-sent
returns-in_err-send_cell_name-clause-sent g c =
    stopped g.F.FnMut _ _ _ _ c.from_residual-in_err-send_cell_name.ensures.0 (
    let content = content_text c.args.labels.now (content_value c.args.content.now) in
    and_then g.F.FnMut _ _ _ (codes "set ") _ _ c.in_ok-send_bytes.ensures.sent (cut g.F.FnMut _ _ (cell_text c.args.cell)
    (32 ∷ (content ++ 10 ∷ [])) c.in_err-send_cell_name.ensures.sent))

pub returns-in_err-send_bytes-2-clause-sent : goal.returns-in_err-send_bytes-2-clause-sent
returns-in_err-send_bytes-2-clause-sent g c =
    stopped g.F.FnMut _ _ _ _ c.from_residual-in_err-send_bytes-2.ensures.0 (
    let content = content_text c.args.labels.now (content_value c.args.content.now) in
    and_then g.F.FnMut _ _ _ (codes "set ") _ _ c.in_ok-send_bytes.ensures.sent
    (and_then g.F.FnMut _ _ _ (cell_text c.args.cell) _ _ c.in_ok-send_cell_name.ensures.sent (cut g.F.FnMut _ _ (32
    ∷ []) (content ++ 10 ∷ []) c.in_err-send_bytes-2.ensures.sent)))

pub returns-in_err-send_content-clause-sent : goal.returns-in_err-send_content-clause-sent
returns-in_err-send_content-clause-sent g c =
    stopped g.F.FnMut _ _ _ _ c.from_residual-in_err-send_content.ensures.0 (
    let content = content_text c.args.labels.now (content_value c.args.content.now) in
    and_then g.F.FnMut _ _ _ (codes "set ") _ _ c.in_ok-send_bytes.ensures.sent
    (and_then g.F.FnMut _ _ _ (cell_text c.args.cell) _ _ c.in_ok-send_cell_name.ensures.sent
    (and_then g.F.FnMut _ _ _ (32 ∷ []) _ _ c.in_ok-send_bytes-2.ensures.sent (cut g.F.FnMut _ _ content (10 ∷ []) c.in_err-send_content.ensures.sent))))

pub returns-clause-sent : goal.returns-clause-sent
returns-clause-sent g c =
    let content = content_text c.args.labels.now (content_value c.args.content.now) in
    and_then g.F.FnMut _ _ _ (codes "set ") _ _ c.in_ok-send_bytes.ensures.sent
    (and_then g.F.FnMut _ _ _ (cell_text c.args.cell) _ _ c.in_ok-send_cell_name.ensures.sent
    (and_then g.F.FnMut _ _ _ (32 ∷ []) _ _ c.in_ok-send_bytes-2.ensures.sent
    (and_then g.F.FnMut _ _ _ content _ _ c.in_ok-send_content.ensures.sent c.send_bytes-3.ensures.sent)))
