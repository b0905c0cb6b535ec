use Rattle.std.proofs.Common.{◌≡◌, rules, subst, sym}
use Rattle.formula_syntax.specs.Formula.{IsFormula}
use Rattle.formula_syntax.specs.Shifting.{shifted}
use Rattle.formula_syntax.specs.Tree.{Tree, tree_of}
use Rattle.formula_syntax.proofs.Shifts.{formula_kept}
use Rattle.formula_syntax.proofs.shifting.shift.Goals as goal

pub invariant_of-result : goal.invariant_of-result
invariant_of-result c =
    let is : tree_of c.in_ok-root.root ≡ shifted c.args.down c.args.right c.args.formula.now = search rules in
    subst (λ (t : Tree). IsFormula t) (sym is) (formula_kept c.args.down c.args.right c.args.formula.now c.root.ensures.kept)
