use Rattle.std.proofs.Common.{◌≡◌, ◌∷◌, ◌++◌, [], rules, ap, ◌∙◌}
use Rattle.formula_syntax.specs.Reading.{under_all}
use Rattle.formula_syntax.specs.Tree.{tree_of}
use Rattle.formula_syntax.proofs.Signs.{under_step}
use Rattle.formula_syntax.proofs.parser.under_signs.Goals as goal

pub loop-sign-preserved : goal.loop-sign-preserved
loop-sign-preserved c =
    let is : c.loop-sign.signs.items ≡ c.pop.new.self.items ++ (c.in-Some.sign ∷ []) = search rules in
    let wrapped = under_step c.loop-sign.signs.items c.pop.new.self.items c.in-Some.sign (tree_of c.loop-sign.node)
    (under_all c.args.signs.items (tree_of c.args.operand)) is c.loop-sign.invariant in
    ap (under_all c.pop.new.self.items) c.in_ok-node.ensures ∙ wrapped
