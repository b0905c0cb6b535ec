use Rattle.window_text.specs.Texts.{check_text}
use Rattle.text_pieces.proofs.PieceLemmas.{Completes}
use Rattle.window_text.proofs.EdgesLemmas.{edges_rest}
use Rattle.window_text.proofs.edges.send_check.Given as goal

abbrev pub invariant-loop-edge : goal.invariant-loop-edge
invariant-loop-edge g l =
    goal.F-IsAlwaysCallable g l.to × Completes g.F.FnMut l.fn.to (check_text l.fn.pairs l.edges) l.to (edges_rest l.edges l.edge-index)
