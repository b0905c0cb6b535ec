use Rattle.text_pieces.proofs.PieceLemmas.{and_then}
use Rattle.window_text.proofs.reports.send_number.Goals as goal

pub returns-clause-sent : goal.returns-clause-sent
returns-clause-sent g c = and_then g.F.FnMut _ _ _ _ _ _ c.in_ok-send_bytes.ensures.sent c.send_decimal.ensures.sent
