use Rattle.std.proofs.Common.{◌≡◌, List, ◌++◌, length}
use Rattle.std.specs.BTreeMap.{btree_map_len as count_of}
use Rattle.recalc_plan.specs.Opens.{Wakes}
use Rattle.recalc_plan.specs.declared.waiter.Waiter.{Waiter}
use Rattle.recalc_plan.proofs.planner.Planner.wake.Given as goal

abbrev pub invariant-loop-waiter : goal.invariant-loop-waiter
invariant-loop-waiter l = (done : List Waiter) × (l.fn.woken.items ≡ l.woken.items ++ done)
    × Wakes l.fn.self.«open» l.self.«open» done l.ready.items × (count_of l.self.«open» ≡ count_of l.fn.self.«open»)

abbrev pub decreases-loop-waiter : goal.decreases-loop-waiter
decreases-loop-waiter l = length l.woken.items
