use Rattle.std.proofs.Common.{◌≡◌, ◌≤◌, length}
use Rattle.formula_syntax.specs.Reading.{after_signs, with_signs, under_all}
use Rattle.formula_syntax.specs.Tree.{Tree}
use Rattle.formula_syntax.proofs.parser.signs.Given as goal

abbrev pub invariant-loop-sign : goal.invariant-loop-sign
invariant-loop-sign l = record {
  behind : after_signs l.tokens ≡ after_signs l.rest;
  signs : (t : Tree) → with_signs l.tokens t ≡ under_all l.signs.items (with_signs l.rest t);
  within : length l.rest ≤ length l.tokens;
}

abbrev pub decreases-loop-sign : goal.decreases-loop-sign
decreases-loop-sign l = length l.rest
