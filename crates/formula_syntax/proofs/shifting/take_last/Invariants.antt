use Rattle.std.proofs.Common.{◌≡◌, [], map, take, drop}
use Rattle.formula_syntax.specs.Rebuilding.{stacked}
use Rattle.formula_syntax.specs.Tree.{tree_of}
use Rattle.formula_syntax.proofs.shifting.take_last.Given as goal

abbrev pub invariant-loop : goal.invariant-loop
invariant-loop l = record {
  taken : map tree_of l.nodes.items ≡ take l.counter (stacked l.initial.done.items []);
  left : stacked l.done.items [] ≡ drop l.counter (stacked l.initial.done.items []);
}
