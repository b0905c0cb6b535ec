use Rattle.std.proofs.Common.{◌≤◌, ◌+◌, ◌-◌}
use Rattle.edit_log.specs.Waiting.{HasPairsBefore}
use Rattle.edit_log.proofs.graphs.add_column.Given as goal

abbrev pub invariant-loop-row : goal.invariant-loop-row
invariant-loop-row g l = (1 ≤ l.row) × HasPairsBefore l.sheet l.col l.row (g.G.Graph.pairs l.graph) l.waiting

abbrev pub decreases-loop-row : goal.decreases-loop-row
decreases-loop-row g l = l.sheet.sizes.rows + 1 - l.row
