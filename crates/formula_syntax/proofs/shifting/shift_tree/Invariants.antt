use Rattle.std.proofs.Common.{◌≡◌, ◌∷◌, []}
use Rattle.formula_syntax.specs.Rebuilding.{stacked, after_steps, steps_weight}
use Rattle.formula_syntax.specs.Shifting.{shifted}
use Rattle.formula_syntax.specs.Tree.{tree_of}
use Rattle.formula_syntax.proofs.shifting.shift_tree.Given as goal

abbrev pub invariant-loop-step : goal.invariant-loop-step
invariant-loop-step l = after_steps l.by.down l.by.right l.left.items (stacked l.done.items []) ≡ shifted l.by.down l.by.right (tree_of l.root) ∷ []

abbrev pub decreases-loop-step : goal.decreases-loop-step
decreases-loop-step l = steps_weight l.left.items
