use Rattle.std.proofs.Common.{◌≤◌, ◌+◌, length}
use Rattle.edit_log.proofs.ReplaceLemmas.{IsReplaced}
use Rattle.edit_log.proofs.replacing.replace_all.Given as goal

abbrev pub invariant-loop-place : goal.invariant-loop-place
invariant-loop-place g l = (length l.changes ≤ g.G.Graph.spare l.graph + l.place)
    × IsReplaced l.changes (g.G.Graph.pairs l.fn.graph) l.place (g.G.Graph.pairs l.graph)
