use Rattle.std.proofs.Common.{[], ◌∷◌, ◌∙◌, ap, subst}
use Rattle.text_pieces.specs.Pieces.{HandsOut}
use Rattle.text_pieces.proofs.PieceLemmas.{and_then, cut}
use Rattle.formula_syntax.specs.Printing.{tree_text}
use Rattle.formula_syntax.specs.Tree.{tree_of}
use Rattle.formula_syntax.proofs.LeftLemmas.{at_loosest}
use Rattle.formula_syntax.proofs.Printed.{plain_spells}
use Rattle.formula_syntax.proofs.printer.send_formula.Goals as goal

pub returns-then-not-send-clause-sent : goal.returns-then-not-send-clause-sent
returns-then-not-send-clause-sent g c = cut g.F.FnMut _ _ (61 ∷ []) (tree_text c.args.formula.now) c.if-not-send.ensures.sent

pub returns-then-not-send-clause-reads_back : goal.returns-then-not-send-clause-reads_back
returns-then-not-send-clause-reads_back g c = plain_spells c.args.formula.now c.root-root.ensures.kept.fitting

pub returns-clause-sent : goal.returns-clause-sent
returns-clause-sent g c =
    let text = at_loosest (tree_of c.root-root.result.now) ∙ ap tree_text c.root-root.ensures.tree in
    subst (λ t. HandsOut g.F.FnMut c.args.to.now (61 ∷ t) c.send_tree.result c.send_tree.new.to) text
    (and_then g.F.FnMut _ _ _ (61 ∷ []) _ _ c.if-not-send.ensures.sent c.send_tree.ensures.sent)

pub returns-clause-reads_back : goal.returns-clause-reads_back
returns-clause-reads_back g c = plain_spells c.args.formula.now c.root-root.ensures.kept.fitting
