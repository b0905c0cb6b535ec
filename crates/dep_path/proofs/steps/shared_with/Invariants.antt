use Rattle.std.proofs.Common.{take}
use Rattle.sheet_refs.specs.Cells.{Position, IsIn}
use Rattle.dep_path.specs.Levels.{SharesNone}
use Rattle.dep_path.proofs.steps.shared_with.Given as goal

abbrev pub invariant-loop-other : goal.invariant-loop-other
invariant-loop-other l = SharesNone (λ (cell : Position). IsIn cell l.range) (take l.other-index l.others)
