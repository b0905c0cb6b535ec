use Rattle.std.proofs.Common.{refl}
use Rattle.sheet_fill.proofs.FormulaLemmas.{formula_moves, formulas_add, lost_call, lost_reference, other_call}
use Rattle.sheet_fill.proofs.MovedLemmas.{copy_kept, end_lost, reference_lost, reference_moves}
use Rattle.sheet_fill.proofs.laws.copied_laws.Goals as goal

pub returns-clause-lost_ends : goal.returns-clause-lost_ends
returns-clause-lost_ends c = end_lost

pub returns-clause-lost_references : goal.returns-clause-lost_references
returns-clause-lost_references c = reference_lost

pub returns-clause-references : goal.returns-clause-references
returns-clause-references c = reference_moves

pub returns-clause-distances : goal.returns-clause-distances
returns-clause-distances c = copy_kept

pub returns-clause-formulas : goal.returns-clause-formulas
returns-clause-formulas c = formula_moves

pub returns-clause-sums : goal.returns-clause-sums
returns-clause-sums c = formulas_add

pub returns-clause-errors : goal.returns-clause-errors
returns-clause-errors c = lost_reference

pub returns-clause-lost_calls : goal.returns-clause-lost_calls
returns-clause-lost_calls c = lost_call

pub returns-clause-calls : goal.returns-clause-calls
returns-clause-calls c = other_call

pub returns-clause-operators : goal.returns-clause-operators
returns-clause-operators c = λ down right sign op first second. (refl, refl)
