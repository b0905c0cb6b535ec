use Rattle.std.proofs.Common.{◌≡◌, ◌++◌, ◌∷◌, [], length, rules}
use Rattle.formula_syntax.specs.Rebuilding.{stacked}
use Rattle.formula_syntax.proofs.Rebuildings.{popped_one, popped_none}
use Rattle.formula_syntax.proofs.shifting.take_last.Goals.{in-Some+in_ok-push, in_default}
use Rattle.formula_syntax.proofs.shifting.take_last.Goals as goal

pub loop-preserved : goal.loop-preserved
loop-preserved c = elim c.match-pop.branch [
  | in-Some+in_ok-push w ↦
      let before : c.loop.done.items ≡ c.pop.new.self.items ++ (w.in-Some.node ∷ []) = search rules in
      let after : c.match-pop.nodes.items ≡ c.loop.nodes.items ++ (w.in-Some.node ∷ []) = search rules in
      let (taken, left) = popped_one c.loop.counter (stacked c.args.done.now.items []) c.loop.done.items
      c.pop.new.self.items c.loop.nodes.items c.match-pop.nodes.items w.in-Some.node before after
      c.loop.invariant.taken c.loop.invariant.left in
      record { taken = taken; left = left }
  | in_default w ↦
      let none : length c.loop.done.items ≡ 0 = search rules in
      let same : c.loop.done.items ≡ c.pop.new.self.items ++ [] = search rules in
      let (taken, left) = popped_none c.loop.counter (stacked c.args.done.now.items []) c.loop.done.items
      c.pop.new.self.items c.loop.nodes.items none same c.loop.invariant.taken c.loop.invariant.left in
      rw w.nodes-is (record { taken = taken; left = left })
]
