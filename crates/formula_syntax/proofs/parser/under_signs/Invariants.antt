use Rattle.std.proofs.Common.{◌≡◌, vec_len}
use Rattle.formula_syntax.specs.Reading.{under_all}
use Rattle.formula_syntax.specs.Tree.{tree_of}
use Rattle.formula_syntax.proofs.parser.under_signs.Given as goal

abbrev pub invariant-loop-sign : goal.invariant-loop-sign
invariant-loop-sign l = under_all l.signs.items (tree_of l.node) ≡ under_all l.initial.signs.items (tree_of l.initial.node)

abbrev pub decreases-loop-sign : goal.decreases-loop-sign
decreases-loop-sign l = vec_len l.signs
