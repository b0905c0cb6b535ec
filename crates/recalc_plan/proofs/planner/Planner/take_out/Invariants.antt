use Rattle.std.proofs.Common.{◌≡◌, ◌+◌, length, take}
use Rattle.std.specs.BTreeMap.{btree_map_len as count_of}
use Rattle.recalc_plan.specs.Opens.{TakesOut}
use Rattle.recalc_plan.proofs.planner.Planner.take_out.Given as goal

abbrev pub invariant-loop-cell : goal.invariant-loop-cell
invariant-loop-cell l = TakesOut l.fn.self.open l.self.open (take l.cell-index l.cells) l.taken.level.items
    l.taken.woken.items × (count_of l.self.open + length l.taken.level.items ≡ count_of l.fn.self.open)
