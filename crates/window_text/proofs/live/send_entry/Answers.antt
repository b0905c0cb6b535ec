use Rattle.std.proofs.Common.{[], ◌∷◌, ◌++◌}
use Rattle.std.specs.Fmt.{decimal}
use Rattle.text_pieces.proofs.PieceLemmas.{and_then, cut}
use Rattle.window_text.specs.Transcripts.{edit_text}
use Rattle.window_text.proofs.StopLemmas.{stopped}
use Rattle.window_text.proofs.live.send_entry.Goals as goal

pub returns-in_err-send_decimal-clause-sent : goal.returns-in_err-send_decimal-clause-sent
returns-in_err-send_decimal-clause-sent g c =
    stopped g.F.FnMut _ _ _ _ c.from_residual.ensures.0 (
    cut g.F.FnMut _ _ (decimal c.args.number) (32 ∷ (c.args.name.now ++ (32 ∷ edit_text c.args.labels.now c.args.edit.now))) c.in_err-send_decimal.ensures.sent)

pub returns-in_err-send_bytes-clause-sent : goal.returns-in_err-send_bytes-clause-sent
returns-in_err-send_bytes-clause-sent g c =
    stopped g.F.FnMut _ _ _ _ c.from_residual-in_err-send_bytes.ensures.0 (
    and_then g.F.FnMut _ _ _ (decimal c.args.number) _ _ c.in_ok-send_decimal.ensures.sent
    (cut g.F.FnMut _ _ (32 ∷ []) (c.args.name.now ++ (32 ∷ edit_text c.args.labels.now c.args.edit.now)) c.in_err-send_bytes.ensures.sent))

pub returns-in_err-send_name-clause-sent : goal.returns-in_err-send_name-clause-sent
returns-in_err-send_name-clause-sent g c =
    stopped g.F.FnMut _ _ _ _ c.from_residual-in_err-send_name.ensures.0 (
    and_then g.F.FnMut _ _ _ (decimal c.args.number) _ _ c.in_ok-send_decimal.ensures.sent
    (and_then g.F.FnMut _ _ _ (32 ∷ []) _ _ c.in_ok-send_bytes.ensures.sent
    (cut g.F.FnMut _ _ c.args.name.now (32 ∷ edit_text c.args.labels.now c.args.edit.now) c.in_err-send_name.ensures.sent)))

pub returns-in_err-send_bytes-2-clause-sent : goal.returns-in_err-send_bytes-2-clause-sent
returns-in_err-send_bytes-2-clause-sent g c =
    stopped g.F.FnMut _ _ _ _ c.from_residual-in_err-send_bytes-2.ensures.0 (
    and_then g.F.FnMut _ _ _ (decimal c.args.number) _ _ c.in_ok-send_decimal.ensures.sent
    (and_then g.F.FnMut _ _ _ (32 ∷ []) _ _ c.in_ok-send_bytes.ensures.sent
    (and_then g.F.FnMut _ _ _ c.args.name.now _ _ c.in_ok-send_name.ensures.sent (cut g.F.FnMut _ _ (32
    ∷ []) (edit_text c.args.labels.now c.args.edit.now) c.in_err-send_bytes-2.ensures.sent))))

pub returns-clause-sent : goal.returns-clause-sent
returns-clause-sent g c =
    and_then g.F.FnMut _ _ _ (decimal c.args.number) _ _ c.in_ok-send_decimal.ensures.sent
    (and_then g.F.FnMut _ _ _ (32 ∷ []) _ _ c.in_ok-send_bytes.ensures.sent
    (and_then g.F.FnMut _ _ _ c.args.name.now _ _ c.in_ok-send_name.ensures.sent (and_then g.F.FnMut _ _ _ (32
    ∷ []) _ _ c.in_ok-send_bytes-2.ensures.sent c.send_edit.ensures.sent)))
