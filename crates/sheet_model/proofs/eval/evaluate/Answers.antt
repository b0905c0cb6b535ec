use Rattle.std.proofs.Common.{◌∙◌, ap, subst, sym}
use Rattle.formula_syntax.specs.Tree.{references_of}
use Rattle.sheet_model.specs.Words.{IsCodeWord, Known, cell_state}
use Rattle.sheet_model.proofs.WordLemmas.{state_of_code, code_is_word, evaluated, plain_references}
use Rattle.sheet_model.proofs.eval.evaluate.Goals as goal

pub eval_known-requires : goal.eval_known-requires
eval_known-requires c =
    let plain = rw c.in-Formula.is at c.requires.plain in
    rw (c.new-known.ensures.sizes, c.new-known.ensures.words, c.deref.ensures)
    (plain_references c.args.sizes c.args.words.now (references_of c.in-Formula.formula.value) c.requires.words c.requires.count plain)

pub returns-clause-state : goal.returns-clause-state
returns-clause-state c =
    let means = rw (c.new-known.ensures.sizes, c.new-known.ensures.words, c.deref.ensures) at c.eval_known.ensures in
    let same = evaluated c.args.sizes c.args.words.now c.in-Formula.formula.value c.eval_known.result c.requires.words c.requires.count means in
    rw c.in-Formula.is (ap cell_state c.code.ensures.code ∙ state_of_code c.eval_known.result c.code.ensures.value ∙ ap Known same)

pub returns-clause-word : goal.returns-clause-word
returns-clause-word c = subst IsCodeWord (sym c.code.ensures.code) (code_is_word c.eval_known.result c.code.ensures.value)
