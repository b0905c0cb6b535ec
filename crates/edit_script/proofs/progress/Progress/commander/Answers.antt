use Rattle.edit_script.proofs.StateLemmas.{stays_brought}
use Rattle.edit_script.proofs.progress.Progress.commander.Goals as goal

pub returns-in-Some-clause-brought : goal.returns-in-Some-clause-brought
returns-in-Some-clause-brought c = stays_brought c.args.self.now c.in-Some.client c.in-Some.is c.requires.sound
