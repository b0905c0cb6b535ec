use Rattle.std.proofs.Common.{◌≡◌, ◌∷◌, ◌++◌, ◌*◌, [], rules}
use Rattle.formula_syntax.specs.Rebuilding.{stacked, Leads}
use Rattle.formula_syntax.specs.Shifting.{shifted}
use Rattle.formula_syntax.specs.Tree.{tree_of, node_count}
use Rattle.formula_syntax.specs.declared.shifting.Step.TheVariants.{Shift}
use Rattle.formula_syntax.proofs.Rebuildings.{last_leads}
use Rattle.formula_syntax.proofs.shifting.shift_last.Goals as goal

pub returns : goal.returns
returns c =
    let split : c.args.nodes.now ≡ c.in-Some.others.now ++ (c.in-Some.last.now ∷ []) = search rules in
    let pushed : c.push.new.self.items ≡ c.args.left.now.items ++ (Shift c.in-Some.others ∷ []) = search rules in
    let leads : Leads c.args.by.now.down c.args.by.now.right c.push.new.self.items
    (shifted c.args.by.now.down c.args.by.now.right (tree_of c.in-Some.last.now) ∷ stacked c.args.done.now.items [])
    c.visit.new.left.items (stacked c.visit.new.done.items []) (4 * node_count (tree_of c.in-Some.last.now)) =
    search rules in
    last_leads c.args.by.now.down c.args.by.now.right c.args.nodes.now c.in-Some.last.now c.in-Some.others
    c.args.left.now.items c.push.new.self.items c.visit.new.left.items (stacked c.args.done.now.items [])
    (stacked c.visit.new.done.items []) split pushed leads
