use Rattle.std.specs.Prelude.{is_ok}
use Rattle.std.proofs.Common.{[], ◌∷◌, ◌++◌}
use Rattle.std.specs.Fmt.{decimal}
use Rattle.window_text.specs.Texts.{count_line}
use Rattle.text_pieces.proofs.PieceLemmas.{begun, next, ended, cut}
use Rattle.window_text.proofs.StopLemmas.{stopped}
use Rattle.window_text.proofs.edges.send_count.Goals as goal

pub returns-in_err-send_bytes-clause-sent : goal.returns-in_err-send_bytes-clause-sent
returns-in_err-send_bytes-clause-sent g c =
    stopped g.F.FnMut _ _ _ _ c.from_residual.ensures.0 (
    cut g.F.FnMut _ _ c.args.word.now (32 ∷ (decimal c.args.number ++ 10 ∷ [])) c.in_err-send_bytes.ensures.sent)

pub returns-in_err-send_bytes-2-clause-sent : goal.returns-in_err-send_bytes-2-clause-sent
returns-in_err-send_bytes-2-clause-sent g c =
    stopped g.F.FnMut _ _ _ _ c.from_residual-in_err-send_bytes-2.ensures.0 (
    ended g.F.FnMut _ _ _ (count_line c.args.word.now c.args.number) (32 ∷ []) (decimal c.args.number ++ 10
    ∷ []) (begun g.F.FnMut _ _ c.args.word.now (32 ∷ (decimal c.args.number ++ 10 ∷ [])) c.in_ok-send_bytes.ensures.sent)
    c.in_err-send_bytes-2.ensures.sent)

pub returns-in_err-send_decimal-clause-sent : goal.returns-in_err-send_decimal-clause-sent
returns-in_err-send_decimal-clause-sent g c =
    stopped g.F.FnMut _ _ _ _ c.from_residual-in_err-send_decimal.ensures.0 (
    ended g.F.FnMut _ _ _ (count_line c.args.word.now c.args.number) (decimal c.args.number) (10
    ∷ []) (next g.F.FnMut _ _ _ (count_line c.args.word.now c.args.number) (32 ∷ []) (decimal c.args.number ++ 10
    ∷ []) (begun g.F.FnMut _ _ c.args.word.now (32 ∷ (decimal c.args.number ++ 10 ∷ [])) c.in_ok-send_bytes.ensures.sent)
    c.in_ok-send_bytes-2.ensures.sent) c.in_err-send_decimal.ensures.sent)

pub returns-clause-sent : goal.returns-clause-sent
returns-clause-sent g c =
    (next g.F.FnMut _ _ _ (count_line c.args.word.now c.args.number) (decimal c.args.number) (10
    ∷ []) (next g.F.FnMut _ _ _ (count_line c.args.word.now c.args.number) (32 ∷ []) (decimal c.args.number ++ 10
    ∷ []) (begun g.F.FnMut _ _ c.args.word.now (32 ∷ (decimal c.args.number ++ 10 ∷ [])) c.in_ok-send_bytes.ensures.sent)
    c.in_ok-send_bytes-2.ensures.sent) c.in_ok-send_decimal.ensures.sent) c.send_bytes-3.new.to (is_ok c.send_bytes-3.result) c.send_bytes-3.ensures.sent
