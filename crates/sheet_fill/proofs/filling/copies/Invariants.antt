use Rattle.std.proofs.Common.{◌≡◌}
use Rattle.sheet_fill.proofs.FillLemmas.{filled_so_far}
use Rattle.sheet_fill.proofs.filling.copies.Given as goal

abbrev pub invariant-loop-place : goal.invariant-loop-place
invariant-loop-place l = l.changes.items ≡ filled_so_far l.sheet l.from l.to l.place
