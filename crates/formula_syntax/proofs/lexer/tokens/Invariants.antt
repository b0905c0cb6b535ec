use Rattle.std.proofs.Common.{◌≤◌, length}
use Rattle.formula_syntax.proofs.Lexemes.{IsAt, HasNoBlank}
use Rattle.formula_syntax.proofs.lexer.tokens.Given as goal

abbrev pub invariant-loop-rest : goal.invariant-loop-rest
invariant-loop-rest l = record {
  place : IsAt l.text l.tokens.items l.rest;
  plain : HasNoBlank l.rest;
  within : length l.rest ≤ length l.text;
}

abbrev pub decreases-loop-rest : goal.decreases-loop-rest
decreases-loop-rest l = length l.rest
