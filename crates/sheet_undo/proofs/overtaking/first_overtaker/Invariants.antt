use Rattle.std.proofs.Common.{take}
use Rattle.sheet_undo.specs.Found.{SharesNone}
use Rattle.sheet_undo.specs.Undoing.{AreWhole}
use Rattle.sheet_undo.proofs.overtaking.first_overtaker.Given as goal

abbrev pub invariant-loop-place : goal.invariant-loop-place
invariant-loop-place l = SharesNone l.own (take l.place l.later) × AreWhole (take l.place l.later)
