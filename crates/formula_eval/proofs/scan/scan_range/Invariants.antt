use Rattle.sheet_refs.proofs.Places.{HasComeTo}
use Rattle.formula_eval.proofs.ScanLemmas.{PlainBelow}
use Rattle.formula_eval.proofs.scan.scan_range.Given as goal

abbrev pub invariant-loop-place : goal.invariant-loop-place
invariant-loop-place g l = PlainBelow (g.I.Inputs.codes l.inputs) l.part l._place × HasComeTo l.part l._place l.cell
