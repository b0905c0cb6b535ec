use Rattle.std.proofs.Common.{map, take}
use Rattle.sheet_refs.specs.Cells.{cells_of}
use Rattle.sheet_refs.proofs.Places.{HasComeTo}
use Rattle.formula_eval.specs.Inputs.{seen_values}
use Rattle.formula_eval.specs.Items.{items_of_cells}
use Rattle.formula_eval.specs.Tallies.{AddsItems}
use Rattle.formula_eval.specs.Views.{looked}
use Rattle.formula_eval.proofs.cells.add_seen.Given as goal

abbrev pub invariant-loop-place : goal.invariant-loop-place
invariant-loop-place g l =
    AddsItems l.fn.function l.initial.tally l.tally
    (items_of_cells (map (looked l.view (seen_values (g.I.Inputs.sizes l.inputs) (g.I.Inputs.codes l.inputs)))
    (take l._place (cells_of l.part)))) × HasComeTo l.part l._place l.cell
