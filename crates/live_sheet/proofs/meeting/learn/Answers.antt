use Rattle.mark_words.specs.Tokens.{doing_of}
use Rattle.live_sheet.proofs.EditLemmas.{has_learned}
use Rattle.live_sheet.proofs.MeetingLemmas.{knows_the_longer}
use Rattle.live_sheet.proofs.meeting.learn.Goals as goal

pub returns-clause-learned : goal.returns-clause-learned
returns-clause-learned g c =
    has_learned c.args.seat.now c.args.editor.now c.meet.new.seat c.requires.log c.meet.ensures.met c.meet.ensures.step

pub returns-clause-knows : goal.returns-clause-knows
returns-clause-knows g c =
    knows_the_longer (doing_of c.args.seat.now) (doing_of c.args.editor.now) (doing_of c.meet.new.seat) c.meet.ensures.met c.requires.log
