use Rattle.std.proofs.Common.{◌≡◌}
use Rattle.formula_syntax.specs.Left.{below, level_below}
use Rattle.formula_syntax.specs.Tree.{tree_of}
use Rattle.formula_syntax.proofs.printer.below.Given as goal

abbrev pub invariant-loop : goal.invariant-loop
invariant-loop l = record {
  here : tree_of l.node ≡ below l.counter (tree_of l.root);
  at : l.at ≡ level_below l.counter l.level (tree_of l.root);
}
