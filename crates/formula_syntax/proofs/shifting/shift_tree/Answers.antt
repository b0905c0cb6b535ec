use Rattle.std.proofs.Common.{◌≡◌, ◌++◌, ◌∷◌, [], length, rules}
use Rattle.formula_syntax.specs.Rebuilding.{stacked, after_step, step_weight, Leads}
use Rattle.formula_syntax.specs.Shifting.{shifted}
use Rattle.formula_syntax.specs.Tree.{tree_of}
use Rattle.formula_syntax.specs.declared.shifting.Step.TheVariants.{Shift}
use Rattle.formula_syntax.proofs.Rebuildings.{steps_start, steps_on, steps_fewer, steps_end, last_done}
use Rattle.formula_syntax.proofs.shifting.shift_tree.Goals as goal

pub loop-step-init : goal.loop-step-init
loop-step-init c =
    let kept : c.push.new.self.items ≡ Shift c.alone.result ∷ [] = search rules in
    steps_start c.args.by.now.down c.args.by.now.right c.args.root.now c.alone.result c.push.new.self.items
    c.new-done.result.items c.alone.ensures kept c.new-done.ensures.items

pub loop-step-preserved : goal.loop-step-preserved
loop-step-preserved c =
    let is : c.loop-step.left.items ≡ c.pop.new.self.items ++ (c.in-Some.step ∷ []) = search rules in
    let leads : Leads c.args.by.now.down c.args.by.now.right c.pop.new.self.items
    (after_step c.args.by.now.down c.args.by.now.right c.in-Some.step (stacked c.loop-step.done.items []))
    c.take_step.new.left.items (stacked c.take_step.new.done.items []) (step_weight c.in-Some.step) =
    search rules in
    steps_on c.args.by.now.down c.args.by.now.right c.loop-step.left.items c.pop.new.self.items
    c.take_step.new.left.items c.in-Some.step (stacked c.loop-step.done.items [])
    (stacked c.take_step.new.done.items []) (shifted c.args.by.now.down c.args.by.now.right
    (tree_of c.args.root.now) ∷ []) is leads c.loop-step.invariant

pub loop-step-smaller : goal.loop-step-smaller
loop-step-smaller c =
    let is : c.loop-step.left.items ≡ c.pop.new.self.items ++ (c.in-Some.step ∷ []) = search rules in
    let leads : Leads c.args.by.now.down c.args.by.now.right c.pop.new.self.items
    (after_step c.args.by.now.down c.args.by.now.right c.in-Some.step (stacked c.loop-step.done.items []))
    c.take_step.new.left.items (stacked c.take_step.new.done.items []) (step_weight c.in-Some.step) =
    search rules in
    steps_fewer c.args.by.now.down c.args.by.now.right c.loop-step.left.items c.pop.new.self.items
    c.take_step.new.left.items c.in-Some.step (stacked c.loop-step.done.items [])
    (stacked c.take_step.new.done.items []) is leads

pub returns : goal.returns
returns c =
    let none : length c.loop-step.left.items ≡ 0 = search rules in
    let only = steps_end c.args.by.now.down c.args.by.now.right c.loop-step.left.items c.loop-step.done.items
    (shifted c.args.by.now.down c.args.by.now.right (tree_of c.args.root.now)) none c.loop-step.invariant in
    let is : c.loop-step.done.items ≡ c.pop-2.new.self.items ++ (c.unwrap.result ∷ []) = search rules in
    last_done c.loop-step.done.items c.pop-2.new.self.items c.unwrap.result (shifted c.args.by.now.down c.args.by.now.right (tree_of c.args.root.now)) is only
