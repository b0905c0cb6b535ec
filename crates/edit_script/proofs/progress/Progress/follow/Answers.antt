use Rattle.edit_script.proofs.StateLemmas.{follow_sound, follow_brought}
use Rattle.edit_script.proofs.progress.Progress.follow.Goals as goal

pub returns-clause-sound : goal.returns-clause-sound
returns-clause-sound c =
    follow_sound c.args.self.now c.place.new.self c.args.name.now c.in_ok-place.place c.requires.sound c.requires.room
    c.in_ok-place.ensures.names c.in_ok-place.ensures.place c.place.ensures.rest

pub returns-clause-brought : goal.returns-clause-brought
returns-clause-brought c =
    follow_brought c.args.self.now c.place.new.self c.args.name.now c.in_ok-place.place c.in_ok-place.ensures.names
    c.in_ok-place.ensures.place c.place.ensures.rest
