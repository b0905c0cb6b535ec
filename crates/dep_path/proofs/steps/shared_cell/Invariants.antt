use Rattle.std.proofs.Common.{take}
use Rattle.sheet_refs.specs.Rectangles.{IsAmong}
use Rattle.dep_path.specs.Levels.{SharesNone}
use Rattle.dep_path.proofs.steps.shared_cell.Given as goal

abbrev pub invariant-loop-range : goal.invariant-loop-range
invariant-loop-range l = SharesNone (IsAmong (take l.range-index l.some)) l.others
