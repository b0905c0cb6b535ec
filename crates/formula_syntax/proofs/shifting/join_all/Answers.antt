use Rattle.std.proofs.Common.{◌≡◌, ◌++◌, ◌∷◌, [], rules}
use Rattle.formula_syntax.specs.Rebuilding.{stacked}
use Rattle.formula_syntax.specs.Shifting.{call_or_lost}
use Rattle.formula_syntax.specs.Tree.{trees_from}
use Rattle.formula_syntax.proofs.Rebuildings.{all_joined}
use Rattle.formula_syntax.proofs.shifting.join_all.Goals as goal

pub returns : goal.returns
returns c =
    let after : c.push.new.self.items ≡ c.take_last.new.done.items ++ (c.in_ok-call.call ∷ []) = search rules in
    all_joined (λ trees. call_or_lost c.args.function (trees_from trees)) c.args.count
    (stacked c.args.done.now.items []) c.take_last.new.done.items c.push.new.self.items c.in_ok-nodes.nodes.items
    c.in_ok-call.call after c.in_ok-call.ensures (search rules) (search rules)
