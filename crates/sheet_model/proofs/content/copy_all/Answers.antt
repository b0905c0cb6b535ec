use Rattle.formula_eval.proofs.NodeLemmas.{take-all}
use Rattle.sheet_model.specs.Sheets.{content_value}
use Rattle.sheet_model.proofs.ListLemmas.{seen_more}
use Rattle.sheet_model.proofs.content.copy_all.Goals as goal

pub loop-content-preserved : goal.loop-content-preserved
loop-content-preserved c =
    rw c.in_ok-push.ensures.items (seen_more content_value c.args.contents.now c.loop-content.copies.items
    c.loop-content.content-index c.content-item.result c.in_ok-copy.copy c.loop-content.invariant
    c.loop-content-test.true c.content-item.is c.in_ok-copy.ensures)

pub returns : goal.returns
returns c = rw (take-all c.args.contents.now c.loop-content.content-index c.loop-content-test.false) at c.loop-content.invariant
