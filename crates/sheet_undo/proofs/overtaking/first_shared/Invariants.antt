use Rattle.std.proofs.Common.{take}
use Rattle.sheet_undo.specs.Undoing.{changed_cells}
use Rattle.sheet_undo.proofs.ShareLemmas.{IsLeast}
use Rattle.sheet_undo.proofs.overtaking.first_shared.Given as goal

abbrev pub invariant-loop-change : goal.invariant-loop-change
invariant-loop-change l = IsLeast (changed_cells l.own) (changed_cells (take l.change-index l.others)) l.first
