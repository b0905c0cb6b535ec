use Rattle.text_pieces.proofs.PieceLemmas.{Completes}
use Rattle.window_text.specs.Changes.{changes_text}
use Rattle.window_text.proofs.ChangeLemmas.{changes_rest}
use Rattle.window_text.proofs.changes.send_changes.Given as goal

abbrev pub invariant-loop-change : goal.invariant-loop-change
invariant-loop-change g l = record {
  callable : goal.F-IsAlwaysCallable g l.to;
  completes : Completes g.F.FnMut l.fn.to (changes_text l.labels l.changes) l.to (changes_rest l.labels l.changes l.change-index);
}
