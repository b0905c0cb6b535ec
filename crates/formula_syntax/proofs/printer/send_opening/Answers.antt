use Rattle.std.proofs.Common.{◌≡◌, ◌∙◌, [], ◌∷◌, ◌++◌, ap, sym, subst, rules}
use Rattle.text_pieces.specs.Pieces.{HandsOut}
use Rattle.text_pieces.proofs.PieceLemmas.{and_then}
use Rattle.formula_syntax.specs.declared.tree.Node as node
use Rattle.formula_syntax.specs.declared.tree.Node.TheFolds.{the_lemmas}
use Rattle.formula_syntax.specs.Left.{sign_text}
use Rattle.formula_syntax.specs.Printing.{bracket_if}
use Rattle.formula_syntax.specs.Tree.{prefix, tree_of}
use Rattle.formula_syntax.proofs.printer.send_opening.Goals as goal

pub returns-in-Prefix-clause-sent : goal.returns-in-Prefix-clause-sent
returns-in-Prefix-clause-sent g c =
    let same : tree_of (node.Prefix c.in-Prefix.op c.in-Prefix.field-1) ≡ prefix c.in-Prefix.op
    (tree_of c.in-Prefix.field-1.value) = search (rules, the_lemmas) in
    let is : tree_of c.args.node.now ≡ prefix c.in-Prefix.op (tree_of c.in-Prefix.field-1.value) = rw c.in-Prefix.is same in
    let sign = c.as_bytes.ensures.value ∙ (c.sign_symbol.ensures ∙ ap sign_text (sym is)) in
    subst (λ t. HandsOut g.F.FnMut c.args.to.now (bracket_if c.args.level (tree_of c.args.node.now) (40 ∷ []) ++ t) c.send.result c.send.new.to) sign
    (and_then g.F.FnMut _ _ _ _ _ _ c.if-not-send_bracket.ensures.sent c.send.ensures.sent)
