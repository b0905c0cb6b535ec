use Rattle.std.proofs.Common.{All, take}
use Rattle.sheet_model.specs.KeptValues.{HoldsValue, KeepsValuesOf}
use Rattle.live_sheet.proofs.settle_range.compute.Given as goal

abbrev pub invariant-loop-cell : goal.invariant-loop-cell
invariant-loop-cell l =
    record {
      kept : KeepsValuesOf l.sheet l.values;
      held : All (HoldsValue l.sheet.sizes l.values) (take l.cell-index l.cells);
    }
