use Rattle.formula_eval.proofs.Divisions.{counts_law, mod_law, mod_zero, quotient_law, quotient_zero}
use Rattle.formula_eval.proofs.Divisions.{remainder_rows as remainder_rows_law, quotient_rows as quotient_rows_law}
use Rattle.formula_eval.proofs.Named.{referenced_law, known_law}
use Rattle.formula_eval.proofs.FormulaInRange.{formula_in_range, formula_filled}
use Rattle.formula_eval.proofs.laws.eval_laws.Goals as goal

pub returns : goal.returns
returns c = record {
  in_range = formula_in_range;
  no_empty = formula_filled;
  counts = counts_law;
  remainder = mod_law;
  remainder_by_zero = mod_zero;
  quotient = quotient_law;
  quotient_by_zero = quotient_zero;
  remainder_rows = remainder_rows_law;
  quotient_rows = quotient_rows_law;
  referenced = referenced_law;
  known = known_law;
}
