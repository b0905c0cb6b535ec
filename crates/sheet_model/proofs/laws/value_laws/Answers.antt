use Rattle.std.proofs.Common.{IsTrue, suc, inl}
use Rattle.sheet_model.specs.Values.{value_of, step, circular_value, IsInput, IsMapped}
use Rattle.sheet_refs.specs.Sizes.{cell_count}
use Rattle.sheet_model.proofs.BudgetLemmas.{stability, circular_closed}
use Rattle.sheet_model.proofs.ValueLemmas.{step_local, step_strict}
use Rattle.sheet_model.proofs.LoopLemmas.{agree_on}
use Rattle.sheet_model.proofs.SheetValues.{one_step, only_values_of, circular_cycle, value_in_range}
use Rattle.sheet_model.proofs.laws.value_laws.Goals as goal

pub returns-clause-stability : goal.returns-clause-stability
returns-clause-stability c = λ sheet cell n m. stability (IsInput sheet) circular_value (step sheet) (step_local sheet) (step_strict sheet) n m cell

pub returns-clause-step : goal.returns-clause-step
returns-clause-step c = one_step

pub returns-clause-cycles : goal.returns-clause-cycles
returns-clause-cycles c = circular_cycle

pub returns-clause-circular : goal.returns-clause-circular
unfolding value_of
returns-clause-circular c = λ sheet among next cell is_among.
    circular_closed (IsInput sheet) circular_value (step sheet) (step_local sheet) (step_strict sheet) (λ cell. IsTrue (among cell))
    (λ cell is. let input = next cell is in (input.0, input.1, inl input.2)) cell is_among (suc (cell_count sheet.sizes))

pub returns-clause-unique : goal.returns-clause-unique
returns-clause-unique c = only_values_of

pub returns-clause-agreeing : goal.returns-clause-agreeing
returns-clause-agreeing c = λ inputs kept a b. agree_on (IsMapped inputs) circular_value (λ cell. IsTrue (kept cell)) a b

pub returns-clause-in_range : goal.returns-clause-in_range
returns-clause-in_range c = value_in_range
