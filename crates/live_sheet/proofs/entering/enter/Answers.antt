-- What the marks and the commit come to.
use Rattle.std.proofs.Common.{◌+◌, List, length, sym, ◌∙◌, ap}
use Rattle.sheet_model.specs.declared.entry.Entry.{Entry}
use Rattle.live_sheet.proofs.EnterLemmas.{has_entered}
use Rattle.live_sheet.proofs.entering.enter.Goals as goal

pub returns-clause-entered : goal.returns-clause-entered
returns-clause-entered c =
    has_entered c.args.sizes c.args.prepared.entry c.args.prepared.number c.args.prepared.touched _ _ c.args.editor.now
    c.mark_all.new.editor c.commit.new.editor
    (c.requires.prepared.number ∙ ap (λ (l : List Entry). length l + 1) (sym c.requires.log)) c.mark_all.ensures.marked
    c.mark_all.ensures.ready c.mark_all.ensures.steps c.commit.ensures.committed c.commit.ensures.steps
