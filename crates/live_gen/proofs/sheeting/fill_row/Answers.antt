use Rattle.std.proofs.Common.{◌+◌, ◌≤◌, length, sym, subst, ◌∙◌, arith}
use Rattle.sheet_model.specs.Fields.{IsLabelField}
use Rattle.live_gen.specs.Filling.{PutsField}
use Rattle.live_gen.proofs.FillLemmas.{fills_more}
use Rattle.live_gen.proofs.TextLemmas.{no_label, short}
use Rattle.live_gen.proofs.sheeting.fill_row.Goals as goal

pub put_field-requires-clause-short : goal.put_field-requires-clause-short
put_field-requires-clause-short c =
    let row = c.requires.row in
    subst (λ t. length t ≤ 64) (sym (c.as_str.ensures.value ∙ c.in_ok-text.ensures))
    (short _ (c.args.row + 1) c.args.drawn (omega (arith, row)) c.requires.drawn)

pub put_field-requires-clause-plain : goal.put_field-requires-clause-plain
put_field-requires-clause-plain c =
    subst (λ t. ¬ IsLabelField t) (sym (c.as_str.ensures.value ∙ c.in_ok-text.ensures)) (no_label _ (c.args.row + 1) c.args.drawn c.requires.drawn)

pub loop-col-preserved : goal.loop-col-preserved
loop-col-preserved c =
    fills_more c.args.row c.args.drawn c.loop-col.col c.args.sheet.now c.loop-col.sheet c.put_field.new.sheet c.requires.row c.loop-col-test.true
    c.loop-col.invariant
    (subst (λ t. PutsField c.args.row c.loop-col.col t c.loop-col.sheet c.put_field.new.sheet) (c.as_str.ensures.value ∙ c.in_ok-text.ensures)
    c.in_ok-put_field.ensures)
