use Rattle.std.proofs.Common.{arith}
use Rattle.formula_syntax.specs.Lexing.{IsSpelt}
use Rattle.formula_syntax.specs.Functions.{function_name}
use Rattle.formula_syntax.proofs.WordLemmas.{all_apart}
use Rattle.formula_syntax.proofs.lexeme.function_of.Goals as goal

pub returns : goal.returns
returns c =
    all_apart (λ f. IsSpelt c.args.word.now (function_name f)
    → ⊥) (λ k d h. c.loop-function.invariant.apart k d (omega (arith, h, c.loop-function-test.false)))
