use Rattle.live_sheet.specs.Stored.{AreEmpty}
use Rattle.live_sheet.proofs.slots.empty_slots.Given as goal

abbrev pub invariant-loop : goal.invariant-loop
invariant-loop l = AreEmpty l.slots.items
