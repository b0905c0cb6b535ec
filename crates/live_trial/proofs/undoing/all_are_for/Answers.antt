use Rattle.std.proofs.Common.{subst}
use Rattle.std.proofs.lemmas.List.{take_all}
use Rattle.sheet_model.specs.Edits.{IsFor}
use Rattle.sheet_model.specs.declared.entry.Entry.{Entry}
use Rattle.sheet_model.proofs.ListLemmas.{all_taken_more}
use Rattle.sheet_undo.specs.Undoing.{AreFor}
use Rattle.live_trial.proofs.undoing.all_are_for.Goals as goal

pub loop-entry-preserved : goal.loop-entry-preserved
loop-entry-preserved c =
    all_taken_more (λ (e : Entry). IsFor c.args.sheet.now e.edit) c.args.log.now c.loop-entry.entry-index
    c.entry-item.result c.loop-entry-test.true c.entry-item.is
    c.loop-entry.invariant (subst (IsFor c.args.sheet.now) c.changes.ensures.changes c.if-not-are_for.ensures)

pub returns : goal.returns
returns c = subst (AreFor c.args.sheet.now) (take_all c.loop-entry.entry-index c.args.log.now c.loop-entry-test.false) c.loop-entry.invariant
