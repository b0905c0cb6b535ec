use Rattle.std.specs.Prelude.{is_ok}
use Rattle.std.proofs.Common.{[], ◌∷◌, ◌++◌, codes, true, false, sym, subst}
use Rattle.std.specs.Fmt.{decimal}
use Rattle.text_pieces.specs.Pieces.{HandsOut}
use Rattle.text_pieces.proofs.PieceLemmas.{and_then, cut, none}
use Rattle.window_text.proofs.TranscriptLemmas.{head_of_one, head_of_many}
use Rattle.window_text.proofs.StopLemmas.{stopped}
use Rattle.window_text.proofs.live.send_edit_head.Goals as goal

pub returns-then-changes-le1-clause-sent : goal.returns-then-changes-le1-clause-sent
returns-then-changes-le1-clause-sent g c =
    subst (λ t. HandsOut g.F.FnMut c.args.to.now t true c.args.to.now) (sym (head_of_one c.args.changes c.if-changes-le1.true)) (none g.F.FnMut c.args.to.now)

pub returns-in_err-send_bytes-clause-sent : goal.returns-in_err-send_bytes-clause-sent
returns-in_err-send_bytes-clause-sent g c =
    stopped g.F.FnMut _ _ _ _ c.from_residual.ensures.0 (
    subst (λ t. HandsOut g.F.FnMut c.args.to.now t false c.send_bytes.new.to) (sym (head_of_many c.args.changes c.if-changes-le1.false))
    (cut g.F.FnMut _ _ (codes "batch ") (decimal c.args.changes ++ 10 ∷ []) c.in_err-send_bytes.ensures.sent))

pub returns-in_err-send_decimal-clause-sent : goal.returns-in_err-send_decimal-clause-sent
returns-in_err-send_decimal-clause-sent g c =
    stopped g.F.FnMut _ _ _ _ c.from_residual-in_err-send_decimal.ensures.0 (
    subst (λ t. HandsOut g.F.FnMut c.args.to.now t false c.send_decimal.new.to) (sym (head_of_many c.args.changes c.if-changes-le1.false))
    (and_then g.F.FnMut _ _ _ (codes "batch ") _ _ c.in_ok-send_bytes.ensures.sent
    (cut g.F.FnMut _ _ (decimal c.args.changes) (10 ∷ []) c.in_err-send_decimal.ensures.sent)))

pub returns-clause-sent : goal.returns-clause-sent
returns-clause-sent g c =
    subst (λ t. HandsOut g.F.FnMut c.args.to.now t (is_ok c.send_bytes-2.result) c.send_bytes-2.new.to)
    (sym (head_of_many c.args.changes c.if-changes-le1.false))
    (and_then g.F.FnMut _ _ _ (codes "batch ") _ _ c.in_ok-send_bytes.ensures.sent
    (and_then g.F.FnMut _ _ _ (decimal c.args.changes) _ _ c.in_ok-send_decimal.ensures.sent
    c.send_bytes-2.ensures.sent))
