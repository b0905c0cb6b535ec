-- Both places are marked.
use Rattle.mark_trial.proofs.TestLemmas.{both_marked, entry_pending, ready_next}
use Rattle.mark_trial.proofs.words.sets_both.Goals as goal

pub commit-requires-clause-marked : goal.commit-requires-clause-marked
commit-requires-clause-marked c κs entry pending place there touched =
    both_marked c.args.marks.now c.args.editor.now c.mark.new.seat c.mark-2.new.seat 7 c.args.count _ c.requires.ready
    c.mark.ensures.doing c.mark-2.ensures.doing place touched

pub returns-clause-ready : goal.returns-clause-ready
returns-clause-ready c =
    let pending = entry_pending c.args.marks.now c.args.editor.now c.mark.new.seat c.mark-2.new.seat 7 c.args.count _
    c.requires.ready c.mark.ensures.doing c.mark-2.ensures.doing in
    ready_next c.args.marks.now c.args.editor.now c.mark.new.seat c.mark-2.new.seat 7 c.args.count _ c.requires.ready
    c.mark.ensures.doing c.mark-2.ensures.doing
    c.commit.new.seat c.commit.ensures.same (c.commit.ensures.doing 7 pending)
