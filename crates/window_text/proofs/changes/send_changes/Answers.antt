use Rattle.std.proofs.Common.{true, sym, subst}
use Rattle.text_pieces.specs.Pieces.{HandsOut}
use Rattle.text_pieces.proofs.PieceLemmas.{Completes, none, next, ended}
use Rattle.window_text.specs.Changes.{changes_text}
use Rattle.window_text.proofs.ChangeLemmas.{changes_end, changes_go_on}
use Rattle.window_text.proofs.StopLemmas.{stopped}
use Rattle.window_text.proofs.changes.send_changes.Goals as goal

pub returns-in_err-send_change-clause-sent : goal.returns-in_err-send_change-clause-sent
returns-in_err-send_change-clause-sent g c =
    stopped g.F.FnMut _ _ _ _ c.from_residual.ensures.0 (
    let goes = changes_go_on c.args.labels.now c.args.changes.now c.loop-change.change-index c.change-item.result c.loop-change-test.true c.change-item.is in
    ended g.F.FnMut _ _ _ _ _ _
    (subst (Completes g.F.FnMut c.args.to.now (changes_text c.args.labels.now c.args.changes.now) c.loop-change.to)
    goes c.loop-change.invariant.completes) c.in_err-send_change.ensures.sent)

pub loop-change-preserved : goal.loop-change-preserved
loop-change-preserved g c =
    let goes = changes_go_on c.args.labels.now c.args.changes.now c.loop-change.change-index c.change-item.result c.loop-change-test.true c.change-item.is in
    record {
      callable = c.in_ok-send_change.ensures.callable;
      completes =
          next g.F.FnMut _ _ _ _ _ _
          (subst (Completes g.F.FnMut c.args.to.now (changes_text c.args.labels.now c.args.changes.now)
          c.loop-change.to) goes c.loop-change.invariant.completes) c.in_ok-send_change.ensures.sent;
    }

pub returns-clause-sent : goal.returns-clause-sent
returns-clause-sent g c =
    c.loop-change.invariant.completes _ true
    (subst (λ t. HandsOut g.F.FnMut c.loop-change.to t true c.loop-change.to)
    (sym (changes_end c.args.labels.now c.args.changes.now c.loop-change.change-index c.loop-change-test.false))
    (none g.F.FnMut c.loop-change.to))
