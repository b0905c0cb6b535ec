use Rattle.std.proofs.Common.{◌∙◌}
use Rattle.formula_syntax.specs.Tree.{references_of}
use Rattle.recalc_workers.proofs.LookupLemmas.{over_these}
use Rattle.recalc_workers.proofs.PlainLemmas.{plain_in_these}
use Rattle.recalc_workers.proofs.evaluating.evaluate_formula.Goals as goal

pub eval_known-requires : goal.eval_known-requires
eval_known-requires c =
    plain_in_these c.args.sizes c.new-listed.result.sizes (references_of c.args.formula.now) c.args.list.now.parts.items
    c.new-listed.result.parts.now c.args.list.now.words.items c.new-listed.result.words.now c.deref-3.result.now
    c.new-listed.ensures.sizes (c.new-listed.ensures.parts ∙ c.deref.ensures.value) (c.new-listed.ensures.words ∙ c.deref-2.ensures.value)
    c.deref-3.ensures.value c.requires.codes (c.has_circular_word.ensures c.if-not-has_circular_word.true) c.requires.known

pub returns-then-not-has_circular_word : goal.returns-then-not-has_circular_word
returns-then-not-has_circular_word c =
    over_these c.args.sizes c.new-listed.result.sizes c.args.list.now.parts.items c.new-listed.result.parts.now
    c.args.list.now.words.items c.new-listed.result.words.now c.args.formula.now c.eval_known.result
    c.new-listed.ensures.sizes (c.new-listed.ensures.parts ∙ c.deref.ensures.value) (c.new-listed.ensures.words ∙ c.deref-2.ensures.value) c.eval_known.ensures

pub returns : goal.returns
returns c =
    over_these c.args.sizes c.new-listed.result.sizes c.args.list.now.parts.items c.new-listed.result.parts.now
    c.args.list.now.words.items c.new-listed.result.words.now c.args.formula.now c.in-Ok.value
    c.new-listed.ensures.sizes (c.new-listed.ensures.parts ∙ c.deref.ensures.value) (c.new-listed.ensures.words ∙ c.deref-2.ensures.value) c.in-Ok.ensures.value
