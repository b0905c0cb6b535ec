use Rattle.value_core.specs.Operators.{binary_of, prefix_of}
use Rattle.value_core.proofs.InRange.{value_result, filled_result, binary_result, prefix_result, prefix_filled}
use Rattle.value_core.proofs.laws.operator_laws.Goals as goal

pub returns : goal.returns
returns c = record {
  binary_in_range = λ op a b _ _. value_result (binary_of op a b) (binary_result op a b);
  prefix_in_range = λ op a h. value_result (prefix_of op a) (prefix_result op a h);
  binary_filled = λ op a b. filled_result (binary_of op a b) (binary_result op a b);
  prefix_filled = prefix_filled;
}
