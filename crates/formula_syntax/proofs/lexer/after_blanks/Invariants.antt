use Rattle.std.proofs.Common.{◌≡◌, length}
use Rattle.formula_syntax.specs.Lexing.{past_blanks}
use Rattle.formula_syntax.proofs.lexer.after_blanks.Given as goal

abbrev pub invariant-loop-first : goal.invariant-loop-first
invariant-loop-first l = past_blanks l.rest ≡ past_blanks l.text

abbrev pub decreases-loop-first : goal.decreases-loop-first
decreases-loop-first l = length l.rest
