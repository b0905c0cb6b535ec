use Rattle.text_pieces.proofs.PieceLemmas.{and_then, cut}
use Rattle.window_text.specs.Texts.{sheet_head}
use Rattle.window_text.proofs.StopLemmas.{stopped}
use Rattle.window_text.proofs.live.send_closing.Goals as goal

pub returns-in_err-send_sheet_head : goal.returns-in_err-send_sheet_head
returns-in_err-send_sheet_head g c =
    record { sent = stopped g.F.FnMut _ _ _ _ c.from_residual.ensures.0 (cut g.F.FnMut _ _ (sheet_head c.args.number) _ c.in_err-send_sheet_head.ensures.sent) }

pub returns : goal.returns
returns g c = record { sent = and_then g.F.FnMut _ _ _ (sheet_head c.args.number) _ _ c.in_ok-send_sheet_head.ensures.sent c.send_closing_rows.ensures.sent }
