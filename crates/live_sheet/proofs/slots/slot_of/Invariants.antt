use Rattle.std.specs.Prelude.{⊤}
use Rattle.live_sheet.proofs.slots.slot_of.Given as goal

abbrev pub invariant-loop-at : goal.invariant-loop-at
invariant-loop-at l = ⊤
