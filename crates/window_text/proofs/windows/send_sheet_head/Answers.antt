use Rattle.std.proofs.Common.{[], ◌∷◌, ◌++◌, codes}
use Rattle.std.specs.Fmt.{decimal}
use Rattle.text_pieces.proofs.PieceLemmas.{and_then, cut}
use Rattle.window_text.proofs.StopLemmas.{stopped}
use Rattle.window_text.proofs.windows.send_sheet_head.Goals as goal

pub returns-in_err-send_bytes-clause-sent : goal.returns-in_err-send_bytes-clause-sent
returns-in_err-send_bytes-clause-sent g c =
    stopped g.F.FnMut _ _ _ _ c.from_residual.ensures.0 (
    cut g.F.FnMut _ _ (codes "sheet ") (decimal c.args.number ++ (32 ∷ [])) c.in_err-send_bytes.ensures.sent)

pub returns-in_err-send_decimal-clause-sent : goal.returns-in_err-send_decimal-clause-sent
returns-in_err-send_decimal-clause-sent g c =
    stopped g.F.FnMut _ _ _ _ c.from_residual-in_err-send_decimal.ensures.0 (
    and_then g.F.FnMut _ _ _ (codes "sheet ") _ _ c.in_ok-send_bytes.ensures.sent (cut g.F.FnMut _ _ (decimal c.args.number)
    (32 ∷ []) c.in_err-send_decimal.ensures.sent))

pub returns-clause-sent : goal.returns-clause-sent
returns-clause-sent g c =
    and_then g.F.FnMut _ _ _ (codes "sheet ") _ _ c.in_ok-send_bytes.ensures.sent
    (and_then g.F.FnMut _ _ _ (decimal c.args.number) _ _ c.in_ok-send_decimal.ensures.sent c.send_bytes-2.ensures.sent)
