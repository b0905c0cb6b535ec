use Rattle.std.proofs.Common.{◌∙◌}
use Rattle.formula_syntax.specs.Tree.{tree_of, references_of}
use Rattle.formula_eval.specs.Meaning.{IsNamedBy}
use Rattle.sheet_model.proofs.PartLemmas.{adds_reversed}
use Rattle.sheet_model.proofs.parts.add_in_order.Goals as goal

pub returns : goal.returns
returns c =
    rw c.reverse_from.ensures
    (adds_reversed c.args.sizes (λ cell. IsNamedBy (references_of (tree_of c.args.root.now)) cell)
    c.args.parts.now.items c.add_parts.new.parts.items c.len-first.result
    (c.len-first.ensures ∙ c.args.parts.now.ok.0) c.in_ok-add_parts.ensures)
