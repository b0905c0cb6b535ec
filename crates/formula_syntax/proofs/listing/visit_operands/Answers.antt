use Rattle.std.proofs.Common.{◌≡◌, ◌∷◌, ◌++◌, [], rules}
use Rattle.formula_syntax.specs.declared.tree.Node as node
use Rattle.formula_syntax.specs.declared.tree.Node.TheFolds.{the_lemmas}
use Rattle.formula_syntax.specs.Tree.{reference, tree_of}
use Rattle.formula_syntax.proofs.Listings.{one_read, operands_left}
use Rattle.formula_syntax.proofs.listing.visit_operands.Goals as goal

pub returns-in-Reference : goal.returns-in-Reference
returns-in-Reference c =
    let same : tree_of (node.Reference c.in-Reference.reference) ≡ reference c.in-Reference.reference = search (rules, the_lemmas) in
    one_read (tree_of c.args.first.now) c.in-Reference.reference c.args.second.now c.args.left.now.items c.alone.result c.args.listed.now c.add.new.self
    (rw c.in-Reference.is same) c.alone.ensures (rw c.range.ensures at c.in_ok-add.ensures)

pub returns : goal.returns
returns c =
    let kept : c.push.new.self.items ≡ c.args.left.now.items ++ (c.alone-2.result ∷ []) = search rules in
    operands_left c.args.first.now c.args.second.now c.alone-3.result c.alone-2.result c.args.left.now.items c.push.new.self.items c.args.listed.now
    c.alone-3.ensures c.alone-2.ensures kept
