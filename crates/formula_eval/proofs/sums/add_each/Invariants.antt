use Rattle.std.proofs.Common.{map, take}
use Rattle.sheet_refs.specs.Cells.{cells_of}
use Rattle.sheet_refs.proofs.Places.{HasComeTo}
use Rattle.formula_eval.specs.Inputs.{seen_values}
use Rattle.formula_eval.specs.Items.{items_of_cells}
use Rattle.formula_eval.specs.Tallies.{AddsItems}
use Rattle.formula_eval.specs.Views.{looked}
use Rattle.formula_syntax.specs.declared.functions.Function.TheVariants.{Sum as SumOf}
use Rattle.formula_eval.specs.declared.cells.View.TheVariants.{All}
use Rattle.formula_eval.specs.Sums.{tally_of}
use Rattle.formula_eval.proofs.sums.add_each.Given as goal

abbrev pub invariant-loop-place : goal.invariant-loop-place
invariant-loop-place g l =
    AddsItems SumOf (tally_of l.initial.more) (tally_of l.more)
    (items_of_cells (map (looked All (seen_values (g.I.Inputs.sizes l.inputs) (g.I.Inputs.codes l.inputs)))
    (take l._place (cells_of l.part)))) × HasComeTo l.part l._place l.cell
