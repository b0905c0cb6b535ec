use Rattle.std.proofs.Common.{[], ◌∷◌, ◌++◌, length}
use Rattle.value_core.specs.Values.{in_quotes}
use Rattle.text_pieces.proofs.PieceLemmas.{Completes}
use Rattle.window_text.proofs.QuoteLemmas.{with_double_quotes}
use Rattle.window_text.proofs.pieces.send_quoted.Given as goal

abbrev pub invariant-loop-place : goal.invariant-loop-place
invariant-loop-place g l =
    goal.F-IsAlwaysCallable g l.to
    × Completes g.F.FnMut l.fn.to (in_quotes l.fn.text) l.to (with_double_quotes l.rest ++ 34 ∷ [])

abbrev pub decreases-loop-place : goal.decreases-loop-place
decreases-loop-place g l = length l.rest
