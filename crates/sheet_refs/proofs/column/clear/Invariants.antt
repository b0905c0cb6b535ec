use Rattle.std.proofs.Common.{◌≡◌, ℕ, ◌<◌}
use Rattle.std.specs.Ordering.{nat_cmp}
use Rattle.std.specs.BTreeMap.{get, btree_map_len}
use Rattle.sheet_refs.proofs.column.clear.Given as goal

abbrev pub invariant-loop-first : goal.invariant-loop-first
invariant-loop-first l =
    ((q : ℕ) → q < l.from → get nat_cmp l.runs q ≡ get nat_cmp l.initial.runs q)
    × ((q : ℕ) → l.to < q → get nat_cmp l.runs q ≡ get nat_cmp l.initial.runs q)

abbrev pub decreases-loop-first : goal.decreases-loop-first
decreases-loop-first l = btree_map_len l.runs
