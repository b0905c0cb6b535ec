use Rattle.std.proofs.Common.{◌≡◌, ◌++◌, map, take}
use Rattle.sheet_refs.specs.Runs.{strip}
use Rattle.sheet_refs.proofs.rect_set.push_strips.Given as goal

abbrev pub invariant-loop-first : goal.invariant-loop-first
invariant-loop-first l = l.parts.items ≡ l.initial.parts.items ++ map (strip l.left l.right) (take l.first-index l.gaps)
