use Rattle.std.proofs.Common.{All}
use Rattle.live_sheet.specs.Slices.{IsValued}
use Rattle.live_sheet.proofs.valuing.list_kept.Given as goal

abbrev pub invariant-loop-cell : goal.invariant-loop-cell
invariant-loop-cell l = record { valued : All (IsValued l.sheet) l.valued.items }
