use Rattle.window_text.specs.Texts.{runs_text}
use Rattle.text_pieces.proofs.PieceLemmas.{Completes}
use Rattle.window_text.proofs.RunsLemmas.{runs_rest}
use Rattle.window_text.proofs.edges.send_runs.Given as goal

abbrev pub invariant-loop-run : goal.invariant-loop-run
invariant-loop-run g l =
    goal.F-IsAlwaysCallable g l.to × Completes g.F.FnMut l.fn.to (runs_text l.runs) l.to (runs_rest l.runs l.run-index)
