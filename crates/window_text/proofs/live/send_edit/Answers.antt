use Rattle.std.specs.Prelude.{is_ok}
use Rattle.std.proofs.Common.{◌≡◌, false, length, ap, subst}
use Rattle.text_pieces.specs.Pieces.{HandsOut}
use Rattle.text_pieces.proofs.PieceLemmas.{and_then, cut}
use Rattle.window_text.specs.Changes.{changes_text}
use Rattle.window_text.specs.Transcripts.{edit_head, edit_text}
use Rattle.window_text.proofs.StopLemmas.{stopped}
use Rattle.window_text.proofs.live.send_edit.Goals as goal

pub returns-in_err-send_edit_head-clause-sent : goal.returns-in_err-send_edit_head-clause-sent
returns-in_err-send_edit_head-clause-sent g c =
    stopped g.F.FnMut _ _ _ _ c.from_residual.ensures.0 (
    let said : edit_text c.args.labels.now c.changes-changes.result.now ≡ edit_text c.args.labels.now c.args.edit.now =
    ap (edit_text c.args.labels.now) c.changes-changes.ensures.changes in
    subst (λ t. HandsOut g.F.FnMut c.args.to.now t false c.send_edit_head.new.to) said
    (cut g.F.FnMut _ _ (edit_head (length c.changes-changes.result.now))
    (changes_text c.args.labels.now c.changes-changes.result.now) c.in_err-send_edit_head.ensures.sent))

pub returns-clause-sent : goal.returns-clause-sent
returns-clause-sent g c =
    let said : edit_text c.args.labels.now c.changes-changes.result.now ≡ edit_text c.args.labels.now c.args.edit.now =
    ap (edit_text c.args.labels.now) c.changes-changes.ensures.changes in
    subst (λ t. HandsOut g.F.FnMut c.args.to.now t (is_ok c.send_changes.result) c.send_changes.new.to) said
    (and_then g.F.FnMut _ _ _ (edit_head (length c.changes-changes.result.now)) _ _ c.in_ok-send_edit_head.ensures.sent c.send_changes.ensures.sent)
