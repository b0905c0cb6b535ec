use Rattle.std.proofs.Common.{◌≡◌, ◌+◌, map, drop}
use Rattle.sheet_refs.specs.Cells.{cells_of}
use Rattle.sheet_refs.proofs.Places.{HasComeTo}
use Rattle.formula_eval.specs.Functions.{place_from}
use Rattle.formula_eval.specs.Inputs.{seen_values}
use Rattle.formula_eval.proofs.ranges.place_of.Given as goal

abbrev pub invariant-loop-place : goal.invariant-loop-place
invariant-loop-place g l = (place_from 1 l.number (map (seen_values (g.I.Inputs.sizes l.inputs) (g.I.Inputs.codes l.inputs)) (cells_of l.part))
    ≡ place_from (l.place + 1) l.number (map (seen_values (g.I.Inputs.sizes l.inputs) (g.I.Inputs.codes l.inputs))
    (drop l.place (cells_of l.part)))) × HasComeTo l.part l.place l.cell
