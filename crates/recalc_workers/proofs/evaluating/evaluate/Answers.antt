use Rattle.std.proofs.Common.{◌≡◌, ◌∙◌, sym, ap, subst}
use Rattle.value_core.specs.Values.{code_of}
use Rattle.formula_syntax.specs.Tree.{Tree, references_of}
use Rattle.formula_eval.specs.Meaning.{formula_value}
use Rattle.sheet_model.specs.declared.content.Content.{Content}
use Rattle.sheet_model.specs.Sheets.{content_value}
use Rattle.sheet_model.specs.Values.{content_references, step_content}
use Rattle.recalc_workers.specs.Inputs.{AgreeWith}
use Rattle.recalc_workers.proofs.evaluating.evaluate.Goals as goal

pub returns-in-Formula : goal.returns-in-Formula
returns-in-Formula c values =
    subst (λ (content : Content). AgreeWith c.args.sizes (content_references (content_value content))
    c.args.list.now.parts.items c.args.list.now.words.items values
    → c.code-in-Formula.result ≡ code_of (step_content c.args.sizes values (content_value content))) (sym c.in-Formula.is)
    (subst (λ (tree : Tree). AgreeWith c.args.sizes (references_of tree) c.args.list.now.parts.items c.args.list.now.words.items values
    → c.code-in-Formula.result ≡ code_of (formula_value c.args.sizes tree values)) c.deref.ensures
    (λ agree. c.code-in-Formula.ensures.code ∙ ap code_of (c.evaluate_formula.ensures values agree)))
