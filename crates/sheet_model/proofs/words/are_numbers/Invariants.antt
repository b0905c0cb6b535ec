use Rattle.std.proofs.Common.{◌≡◌, ◌≤◌, ◌*◌}
use Rattle.sheet_model.specs.Lines.{HasNumbers}
use Rattle.sheet_model.proofs.words.are_numbers.Given as goal

abbrev pub invariant-loop-k : goal.invariant-loop-k
invariant-loop-k l = (l.others ≡ 0 → HasNumbers l.words l.first l.step l.k) × (l.others ≤ l.k * 7)
