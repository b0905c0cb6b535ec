use Rattle.std.proofs.Common.{true, [], ◌∷◌, sym, subst}
use Rattle.text_pieces.specs.Pieces.{HandsOut}
use Rattle.text_pieces.proofs.PieceLemmas.{none, next, ended}
use Rattle.window_text.proofs.RunsLemmas.{next_run, runs_end}
use Rattle.window_text.proofs.StopLemmas.{stopped}
use Rattle.window_text.proofs.edges.send_runs.Goals as goal

pub loop-run-init : goal.loop-run-init
loop-run-init g c = (c.requires.callable, λ last told rest. rest)

pub returns-in_err-send_range_name : goal.returns-in_err-send_range_name
returns-in_err-send_range_name g c =
    let rest = next_run g.F.FnMut _ _ c.args.runs.now c.loop-run.run-index c.run-item.result c.loop-run-test.true c.run-item.is c.loop-run.invariant.1 in
    record { sent = stopped g.F.FnMut _ _ _ _ c.from_residual.ensures.0 (ended g.F.FnMut _ _ _ _ _ _ rest c.in_err-send_range_name.ensures.sent) }

pub returns-in_err-send_bytes : goal.returns-in_err-send_bytes
returns-in_err-send_bytes g c =
    let rest = next_run g.F.FnMut _ _ c.args.runs.now c.loop-run.run-index c.run-item.result c.loop-run-test.true c.run-item.is c.loop-run.invariant.1 in
    record {
      sent = stopped g.F.FnMut _ _ _ _ c.from_residual-in_err-send_bytes.ensures.0
          (ended g.F.FnMut _ _ _ _ (10 ∷ []) _ (next g.F.FnMut _ _ _ _ _ _ rest c.in_ok-send_range_name.ensures.sent) c.in_err-send_bytes.ensures.sent);
    }

pub loop-run-preserved : goal.loop-run-preserved
loop-run-preserved g c =
    let rest = next_run g.F.FnMut _ _ c.args.runs.now c.loop-run.run-index c.run-item.result c.loop-run-test.true c.run-item.is c.loop-run.invariant.1 in (
      c.in_ok-send_bytes.ensures.callable,
      next g.F.FnMut _ _ _ _ (10 ∷ []) _ (next g.F.FnMut _ _ _ _ _ _ rest c.in_ok-send_range_name.ensures.sent)
          c.in_ok-send_bytes.ensures.sent,
    )

pub returns : goal.returns
returns g c =
    record {
      sent = c.loop-run.invariant.1 _ true (subst (λ t. HandsOut g.F.FnMut c.loop-run.to t true c.loop-run.to)
          (sym (runs_end c.args.runs.now c.loop-run.run-index c.loop-run-test.false)) (none g.F.FnMut c.loop-run.to));
    }
