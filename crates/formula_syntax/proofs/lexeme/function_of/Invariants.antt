use Rattle.std.proofs.Common.{◌≡◌, ℕ, ◌<◌, get_or}
use Rattle.formula_syntax.specs.Lexing.{IsSpelt}
use Rattle.formula_syntax.specs.Functions.{function_name, all_functions}
use Rattle.formula_syntax.specs.declared.functions.Function.{Function}
use Rattle.formula_syntax.proofs.lexeme.function_of.Given as goal

abbrev pub invariant-loop-function : goal.invariant-loop-function
invariant-loop-function l = record {
  items : l.function-items ≡ all_functions;
  apart : (k : ℕ) (d : Function) → k < l.function-index → IsSpelt l.word (function_name (get_or l.function-items k d)) → ⊥;
}
