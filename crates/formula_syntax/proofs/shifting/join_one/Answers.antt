use Rattle.std.proofs.Common.{◌≡◌, ◌++◌, ◌∷◌, [], rules}
use Rattle.formula_syntax.specs.Tree.{prefix}
use Rattle.formula_syntax.proofs.Rebuildings.{one_joined}
use Rattle.formula_syntax.proofs.shifting.join_one.Goals as goal

pub returns : goal.returns
returns c =
    let before : c.args.done.now.items ≡ c.pop.new.self.items ++ (c.in-Some.operand ∷ []) = search rules in
    let after : c.push.new.self.items ≡ c.pop.new.self.items ++ (c.in_ok-prefix_of.field-0 ∷ []) = search rules in
    one_joined (prefix c.args.op) c.args.done.now.items c.pop.new.self.items c.push.new.self.items c.in-Some.operand
    c.in_ok-prefix_of.field-0 before after c.in_ok-prefix_of.ensures
