use Rattle.std.proofs.Common.{◌≡◌, ◌++◌, ◌∷◌, [], rules}
use Rattle.formula_syntax.specs.Tree.{binary}
use Rattle.formula_syntax.proofs.Rebuildings.{two_joined}
use Rattle.formula_syntax.proofs.shifting.join_two.Goals as goal

pub returns : goal.returns
returns c =
    let before : c.args.done.now.items ≡ c.pop.new.self.items ++ (c.in-Some.first ∷ []) = search rules in
    let again : c.pop.new.self.items ≡ c.pop-2.new.self.items ++ (c.in-Some-pop.second ∷ []) = search rules in
    let after : c.push.new.self.items ≡ c.pop-2.new.self.items ++ (c.in_ok-binary_of.field-0 ∷ []) = search rules in
    two_joined (binary c.args.op) c.args.done.now.items c.pop.new.self.items c.pop-2.new.self.items
    c.push.new.self.items c.in-Some.first c.in-Some-pop.second c.in_ok-binary_of.field-0 before again after
    c.in_ok-binary_of.ensures
