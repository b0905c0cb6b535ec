use Rattle.std.proofs.Common.{true, false, [], ◌∷◌, ◌++◌, ap₂, subst}
use Rattle.std.specs.Prelude.{codes}
use Rattle.text_pieces.specs.Pieces.{HandsOut}
use Rattle.text_pieces.proofs.PieceLemmas.{and_then, cut}
use Rattle.window_text.specs.Changes.{changes_text}
use Rattle.window_text.proofs.StopLemmas.{stopped}
use Rattle.window_text.proofs.changes.send_batch.Goals as goal

pub returns-in_err-send_bytes : goal.returns-in_err-send_bytes
returns-in_err-send_bytes g c =
    let changes = changes_text c.args.sheet.now.labels c.args.edit.now in
    record {
      sent = stopped g.F.FnMut _ _ _ _ c.from_residual.ensures.0
          (cut g.F.FnMut _ _ (codes "batch" ++ 10 ∷ []) (changes ++ (codes "end" ++ 10 ∷ [])) c.in_err-send_bytes.ensures.sent);
    }

pub returns-in_err-send_changes : goal.returns-in_err-send_changes
returns-in_err-send_changes g c =
    let changes = changes_text c.args.sheet.now.labels c.args.edit.now in
    let said = ap₂ changes_text c.labels.ensures.labels c.changes.ensures.changes in
    let sent = subst (λ t. HandsOut g.F.FnMut c.send_bytes.new.to t false c.send_changes.new.to) said c.in_err-send_changes.ensures.sent in
    record {
      sent = stopped g.F.FnMut _ _ _ _ c.from_residual-in_err-send_changes.ensures.0
          (and_then g.F.FnMut _ _ _ (codes "batch" ++ 10 ∷ []) _ _ c.in_ok-send_bytes.ensures.sent
          (cut g.F.FnMut _ _ changes (codes "end" ++ 10 ∷ []) sent));
    }

pub returns : goal.returns
returns g c =
    let changes = changes_text c.args.sheet.now.labels c.args.edit.now in
    let said = ap₂ changes_text c.labels.ensures.labels c.changes.ensures.changes in
    let sent = subst (λ t. HandsOut g.F.FnMut c.send_bytes.new.to t true c.send_changes.new.to) said c.in_ok-send_changes.ensures.sent in
    record {
      sent = and_then g.F.FnMut _ _ _ (codes "batch" ++ 10 ∷ []) _ _ c.in_ok-send_bytes.ensures.sent
          (and_then g.F.FnMut _ _ _ changes _ _ sent c.send_bytes-2.ensures.sent);
    }
