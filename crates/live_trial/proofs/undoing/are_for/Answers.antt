use Rattle.std.proofs.Common.{subst}
use Rattle.std.proofs.lemmas.List.{take_all}
use Rattle.sheet_model.specs.Edits.{IsChangeFor, IsFor}
use Rattle.sheet_model.proofs.ListLemmas.{all_taken_more}
use Rattle.live_trial.proofs.undoing.are_for.Goals as goal

pub loop-change-preserved : goal.loop-change-preserved
loop-change-preserved c =
    all_taken_more (IsChangeFor c.args.sheet.now) c.args.changes.now c.loop-change.change-index c.change-item.result c.loop-change-test.true c.change-item.is
    c.loop-change.invariant c.if-not-is_for.ensures

pub returns : goal.returns
returns c = subst (IsFor c.args.sheet.now) (take_all c.loop-change.change-index c.args.changes.now c.loop-change-test.false) c.loop-change.invariant
