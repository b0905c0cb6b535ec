use Rattle.live_sheet.proofs.EditLemmas.{has_heard}
use Rattle.live_sheet.proofs.meeting.hear.Goals as goal

pub returns-clause-heard : goal.returns-clause-heard
returns-clause-heard g c =
    has_heard c.args.editor.now c.args.seat.now c.meet.new.seat c.requires.editor c.meet.ensures.met c.meet.ensures.step
